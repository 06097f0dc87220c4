pub mod Origin
pub mod Input
pub mod Arms

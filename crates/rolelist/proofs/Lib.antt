pub mod Cut
pub mod Every
pub mod Placed
pub mod Listing
pub mod Rows

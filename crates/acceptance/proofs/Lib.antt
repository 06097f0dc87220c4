pub mod Chain
pub mod Gaps
pub mod Ranges

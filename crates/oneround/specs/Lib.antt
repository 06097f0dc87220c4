pub mod Weigh
pub mod Make
pub mod Round
pub mod Kept

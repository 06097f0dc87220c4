pub mod Progress
pub mod Live
pub mod Needed
pub mod Order

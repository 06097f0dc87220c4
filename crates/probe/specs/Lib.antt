pub mod Heads
pub mod Attempt

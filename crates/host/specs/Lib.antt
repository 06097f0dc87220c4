pub mod Host
pub mod Bounds

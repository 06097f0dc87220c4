pub mod Flags
pub mod Written

pub mod Lists
pub mod Last
pub mod Bits
pub mod Bytes
pub mod Steps

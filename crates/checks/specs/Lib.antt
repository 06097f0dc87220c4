pub mod Causes
pub mod Found
pub mod Plain

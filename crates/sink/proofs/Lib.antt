pub mod Looping
pub mod Call

pub mod Text
pub mod Digits
pub mod Report

pub mod Along
pub mod Puts
pub mod Work

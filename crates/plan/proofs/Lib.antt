pub mod Lent
pub mod Sweeping
pub mod Turning
pub mod Choosing
pub mod Telling
pub mod Heard

pub mod Releases
pub mod Founds
pub mod Lows
pub mod Gave
pub mod Turns
pub mod Allots
pub mod Typing
pub mod Fresh

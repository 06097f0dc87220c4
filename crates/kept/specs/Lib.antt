pub mod Walk
pub mod Shown
pub mod Stood
pub mod Wrong

pub mod First
pub mod Turned
pub mod Visiting
pub mod Writers
pub mod Writing

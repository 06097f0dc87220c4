pub mod Sweep
pub mod Turn
pub mod Set

pub mod Learning
pub mod Aiming
pub mod Wording
pub mod Planned
pub mod Moves
pub mod Trials

pub mod Ended
pub mod State
pub mod Going
pub mod Judge

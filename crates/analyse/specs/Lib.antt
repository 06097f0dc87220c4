pub mod State
pub mod Step

pub mod Names
pub mod Runs
pub mod Counts
pub mod All

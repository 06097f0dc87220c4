pub mod Dropping
pub mod Lasting
pub mod Pending
pub mod Lawful
pub mod Easier
pub mod Settling

pub mod Chosen
pub mod Marking
pub mod Six
pub mod Starting
pub mod Testing

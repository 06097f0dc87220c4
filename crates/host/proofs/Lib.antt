pub mod Left
pub mod Loads
pub mod Entry

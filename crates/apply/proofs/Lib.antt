pub mod Asked
pub mod Walked
pub mod Placed
pub mod Done

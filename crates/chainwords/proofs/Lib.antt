pub mod Copying
pub mod Kept
pub mod Putting
pub mod Rooms
pub mod Standing
pub mod Telling
pub mod Using

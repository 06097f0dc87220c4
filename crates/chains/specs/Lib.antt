pub mod Chain
pub mod Places
pub mod Cursor
pub mod Positions

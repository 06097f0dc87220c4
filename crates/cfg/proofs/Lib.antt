pub mod Noted
pub mod Successors
pub mod Each

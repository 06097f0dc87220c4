pub mod Backing
pub mod Forwarding
pub mod Places
pub mod Stamping
pub mod Summing
pub mod Wording

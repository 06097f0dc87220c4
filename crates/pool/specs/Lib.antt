pub mod Pool
pub mod Types
pub mod Plan

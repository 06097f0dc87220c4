pub mod Chain
pub mod Marks
pub mod Rules

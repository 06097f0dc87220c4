pub mod Start
pub mod Looked
pub mod Anew

pub mod Freed
pub mod Given
pub mod Targets
pub mod Insts
pub mod Looked
pub mod Seen
pub mod Slots

pub mod Target
pub mod Trial

pub mod Going
pub mod LastUse
pub mod Using

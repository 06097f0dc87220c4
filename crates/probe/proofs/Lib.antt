pub mod Given
pub mod Numbers
pub mod Seeking
pub mod Attempts

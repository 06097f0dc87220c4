pub mod Struct
pub mod Search
pub mod Laid
pub mod Seeking

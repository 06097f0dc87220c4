pub mod Sets
pub mod Coded
pub mod Writers

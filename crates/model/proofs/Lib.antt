pub mod Table
pub mod Sizes
pub mod Movable
pub mod Results
pub mod Numbers

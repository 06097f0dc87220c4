pub mod Drawn
pub mod Graph
pub mod Func
pub mod Preds
pub mod Succs

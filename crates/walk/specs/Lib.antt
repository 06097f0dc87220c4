pub mod Machine
pub mod Rules
pub mod Demand

pub mod Asked
pub mod Counted
pub mod Prepared
pub mod Renewal
pub mod Making
pub mod Rounded
pub mod Kept

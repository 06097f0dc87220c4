pub mod Origins
pub mod ByArm
pub mod Rows

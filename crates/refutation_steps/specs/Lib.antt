pub mod Checked
pub mod Added

pub mod Lengths
pub mod Loaded

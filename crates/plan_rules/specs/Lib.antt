pub mod Kept
pub mod Marks

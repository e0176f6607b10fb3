pub mod Kept
pub mod Known

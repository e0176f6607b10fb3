pub mod Combining
pub mod Counting

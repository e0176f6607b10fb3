pub mod Chained
pub mod Counting
pub mod Families

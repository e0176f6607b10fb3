pub mod Blocks
pub mod Codes
pub mod Rows
pub mod Claims
pub mod Counts
pub mod Bits

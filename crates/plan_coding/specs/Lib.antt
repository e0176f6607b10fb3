pub mod Decoded
pub mod Encoded

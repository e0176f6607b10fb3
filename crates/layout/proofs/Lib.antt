pub mod Places
pub mod Capped

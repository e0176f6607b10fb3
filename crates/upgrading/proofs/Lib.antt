pub mod Framing
pub mod Rewriting

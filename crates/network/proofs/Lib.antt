pub mod Held
pub mod Chains
pub mod Walks
pub mod Links
pub mod Rests
pub mod Dividing

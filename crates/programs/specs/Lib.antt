pub mod Text
pub mod Opening
pub mod Verdicts
pub mod Arguments
pub mod Loaded

pub mod Joined
pub mod Same
pub mod Stored
pub mod Labelled

pub mod Labelled
pub mod Shown
pub mod Standing

pub mod Answers
pub mod Shown

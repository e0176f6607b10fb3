pub mod Uncapped
pub mod Answers

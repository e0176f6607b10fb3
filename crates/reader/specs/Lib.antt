pub mod Added
pub mod BookAnswers

pub mod StepFaults
pub mod StepAnswers
pub mod Walking
pub mod Adding
pub mod Along

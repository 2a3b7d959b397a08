-- Laws of a job as its text.
pub mod Lines
pub mod Answers
pub mod Unique
pub mod Crowded

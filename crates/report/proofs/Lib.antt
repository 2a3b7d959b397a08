-- Laws of what is printed.
pub mod Lines
pub mod Printing
pub mod Unique
pub mod JobAnswers
pub mod ReadBack
pub mod OneAnswer
pub mod Page

-- What the program leaves on its output.
pub mod Answered

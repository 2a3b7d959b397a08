-- The digits of a number, and what putting bytes into a lent list leaves and answers.
pub mod Digits
pub mod Putting

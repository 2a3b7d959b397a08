-- What the questions promise that are asked with the first of 80 records.
pub mod Lent

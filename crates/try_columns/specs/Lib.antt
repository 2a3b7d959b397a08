-- Records as numbers, and numbers as records.
pub mod Columns

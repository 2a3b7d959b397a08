-- What writing a job as its text promises, and the rows of its lines.
pub mod Rows
pub mod Writing

-- What is owed to whoever runs the program, and when a job is refused for its closed nodes or its dwell.
pub mod Owed
pub mod Closed
pub mod Dwell

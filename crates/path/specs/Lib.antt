-- What the questions about paths promise, and what their steps promise to each other.
pub mod Paths
pub mod Steps

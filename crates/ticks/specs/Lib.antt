-- What the start ticks of a table and an order promise, and the held list of a new carrier.
pub mod Timing
pub mod Gathering
pub mod Steps

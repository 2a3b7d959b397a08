-- Row: what the distance walk promises. Sweep: what its steps promise to each other.
pub mod Row
pub mod Sweep

-- What the distance table of a job holds, and what is measured by it.
pub mod Filling
pub mod Measuring
pub mod Blocks

-- Laws of the rows and blocks of a distance table, and of what is measured by one.
pub mod Rows
pub mod Blocks
pub mod Measuring
pub mod Unique

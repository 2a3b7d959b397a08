-- The laws of the records that are made and told.
pub mod Columns

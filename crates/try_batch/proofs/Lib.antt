-- The laws of the numbers and lists of a payload, and that a byte has one kind.
pub mod Payloads
pub mod Letters

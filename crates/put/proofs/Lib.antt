-- The laws of digits and of bytes put into a list.
pub mod Digits
pub mod Putting

-- The laws of the record: what is free, what forgetting leaves, where a carrier stands that takes a slot, and
-- that one answer fits each promise.
pub mod Lists
pub mod Slots
pub mod Unique

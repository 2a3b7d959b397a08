-- The floor book as a record: its slots, when it is damaged, when a clock value is refused.
pub mod Record
pub mod Refusals
pub mod Questions

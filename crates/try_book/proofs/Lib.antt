-- That one outcome fits the promise (Unique).
pub mod Unique

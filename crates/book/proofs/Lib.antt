-- The row of a book that is lent (BookRow), and that one outcome fits the promise (Unique).
pub mod BookRow
pub mod Unique

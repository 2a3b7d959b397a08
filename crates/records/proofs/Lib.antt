-- A record as the element of a slice that is lent (Table), the lists of the loops (Lists), what
-- callers know (Laws), and one outcome for each input (Unique).
pub mod Table
pub mod Lists
pub mod Laws
pub mod Unique

-- The cases of the floor book as tables: those with their outcomes, those at a limit and with several faults,
-- and what easy errors would give; and the same of trolleys of calls.
pub mod Case
pub mod Refusals
pub mod Errors
pub mod Trolleys
pub mod TrolleyErrors

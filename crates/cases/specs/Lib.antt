-- The cases of the rules as tables: those with their outcomes, what easy errors would give, and which of
-- several faults comes first.
pub mod Case
pub mod Errors
pub mod Refusals

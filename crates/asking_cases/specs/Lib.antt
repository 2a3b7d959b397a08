-- The cases of the question whether a move may go at a tick as tables: those with their answers, and what
-- easy errors would answer.
pub mod Case
pub mod Errors

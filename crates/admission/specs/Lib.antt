-- One admission to the floor book, a trolley of them, and the question whether a move may go at a tick: what
-- is refused, in which order, and what is answered and left. Steps is what the functions promise one another.
pub mod Refusals
pub mod Questions
pub mod Admission
pub mod Trolley
pub mod Asking
pub mod Steps

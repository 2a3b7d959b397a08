-- The three demands.
--     Demands    of the library's questions
--     Program    of what the program prints
--     Shared     of carriers that share a start, a goal or both
--     Written    of a job as its text, and back
--     Closed     of the refusals for closed nodes
--     Open       of where carriers stand, and of closed nodes in texts
--     Dwell      of the refusal for a dwell, the greatest ticks, jobs without dwell, and that it comes back
pub mod Demands
pub mod Program
pub mod Shared
pub mod Written
pub mod Closed
pub mod Open
pub mod Dwell

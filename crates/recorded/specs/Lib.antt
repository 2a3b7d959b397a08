-- What the questions with a whole job promise whose records are lent (crate `jobs`). Each file opens with a
-- dictionary in the words of the rules. Loading has what the functions on numbers promise.
pub mod Job
pub mod Reading
pub mod Planning
pub mod Asking
pub mod Writing
pub mod Loading
pub mod Demands

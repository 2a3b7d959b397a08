-- Laws of planning a job from numbers, from the bottom up.
--     steps         Faults, Receiving, Outcome, Ready
--     the promise   Unique, Exactly, Safe, Crowd, Cases, RuledOut
pub mod Faults
pub mod Receiving
pub mod Outcome
pub mod Ready
pub mod Unique
pub mod Exactly
pub mod Safe
pub mod Crowd
pub mod Cases
pub mod RuledOut

-- What planning a job from numbers promises, and what its first step does.
pub mod Planning
pub mod Receiving

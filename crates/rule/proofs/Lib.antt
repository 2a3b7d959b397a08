-- The laws behind the promises, from one stretch to the whole search. For callers: Carry, Holding, Bound and
-- Unique.
pub mod Stretch
pub mod StretchEnd
pub mod Reach
pub mod Work
pub mod Carry
pub mod Holding
pub mod Bound
pub mod Near
pub mod Unique

-- The laws of one admission, from one slot to the whole step, of a trolley, and of the question whether a
-- move may go. For callers: Unique, Took, Pairs, SoundAfter, Riding, RideUnique, Asking.
pub mod StaleSlots
pub mod Gathering
pub mod SoundCall
pub mod Admitting
pub mod Unique
pub mod Took
pub mod Pairs
pub mod SoundAfter
pub mod Riding
pub mod RideUnique
pub mod Asking

-- The laws behind the checks from numbers, and that one answer fits each.
pub mod Questions
pub mod Tests
pub mod LaneList
pub mod ClosedList
pub mod EntryKinds
pub mod EachEntry
pub mod SoundMove
pub mod Unique

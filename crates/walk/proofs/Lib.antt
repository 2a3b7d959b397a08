-- Laws of the distance walk, from its promise down to a look at one lane and up to the certificate of the
-- distances.
pub mod WalkRow
pub mod WalkBegun
pub mod WalkMarks
pub mod WalkFalls
pub mod WalkSweep
pub mod WalkReach

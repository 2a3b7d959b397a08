-- Laws of the questions about paths: 8 of a sound move; neighbours and the house path as the loops go
-- over them; a list against the terms of a shortest path. Last what the answers owe to each other: agreement,
-- one answer for each input, what each answer tells exactly, and that no path stands on a closed node.
pub mod Reached
pub mod StepPairs
pub mod LaneScan
pub mod NextNode
pub mod Downhill
pub mod Laying
pub mod Listed
pub mod Housing
pub mod Agree
pub mod Unique
pub mod Exactly
pub mod Closed

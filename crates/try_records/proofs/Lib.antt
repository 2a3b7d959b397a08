-- The steps with which a walk lends the front of a local array (Fronts), and one outcome for each input
-- (Unique).
pub mod Fronts
pub mod Unique

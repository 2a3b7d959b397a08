-- The laws of the definitions in specs/, from the bottom up. The laws of plans (those that end in -listed,
-- and what they cite) use of a job that its order lists each carrier once, and nothing of its moves.
--     numbers       Ints, Left, Answers, Lowest, Test
--     the floor     Walks, Lists, LaneList, Paths, Pigeon, Labels, FloorTests, Decide, House
--     the rule      Rules, Ranges, Safe, Ticks, NoDwell, TickTests
--     refusals      Numbers, Stages, Moves, Compose, Places, Crowded, StageTests, FaultTests, Complete,
--                   Sound, WellFormed, Writing
--     plans         Demand, Shared, PlanLaws, DwellLimits, Exist, Summit
pub mod Ints
pub mod Walks
pub mod Lists
pub mod LaneList
pub mod Paths
pub mod Rules
pub mod Test
pub mod Safe
pub mod Pigeon
pub mod Ranges
pub mod Labels
pub mod Ticks
pub mod Numbers
pub mod Stages
pub mod Moves
pub mod Compose
pub mod Places
pub mod Crowded
pub mod Left
pub mod Sound
pub mod Demand
pub mod NoDwell
pub mod Shared
pub mod PlanLaws
pub mod DwellLimits
pub mod Lowest
pub mod TickTests
pub mod StageTests
pub mod FaultTests
pub mod FloorTests
pub mod Decide
pub mod House
pub mod Exist
pub mod Complete
pub mod WellFormed
pub mod Writing
pub mod Summit
pub mod Answers

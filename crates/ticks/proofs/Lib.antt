-- The laws behind the start ticks by a table and an order, and that one outcome fits (Unique). Callers with a
-- sound job use `job_served` (Order) and `given_plan` (Outcome); callers that gather by themselves use
-- `served_gathered` and `lent_smallest` (Gathering).
pub mod Order
pub mod Gathering
pub mod Places
pub mod Sums
pub mod Outcome
pub mod Unique

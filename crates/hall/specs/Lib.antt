-- The rules (docs/RULES.md) as definitions. Each file opens with a dictionary: a symbol, its meaning in
-- words, and the rules that it stands for.
pub mod Limits
pub mod Floor
pub mod Job
pub mod Numbers
pub mod Printed
pub mod Stages
pub mod Said
pub mod Refusals
pub mod Questions
pub mod WellFormed
pub mod Left
pub mod Rule
pub mod Ticks
pub mod Path
pub mod Plan
pub mod Safety
pub mod NoDwell

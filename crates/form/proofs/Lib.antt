-- The laws of the form, from the bottom up. All but the last two groups are over any list of sections.
--     lines         Cuts, LineForms, LineTests: a line has one reading, and is decided
--     texts         SoundTexts, Steps, Runs: section by section is line by line; one outcome
--                   WholeChecks, Checks: a section's checks by its whole list; what they look at
--                   StepTests, Reached, Reading: how a text is decided, line by line
--                   Lengths, LongTexts, LineNumbers: how long it is, what its first bytes say, its lines
--     sections      WordTests, Tables, Rows, FirstSections: their words, a reader's table, lists as entries
--     job texts     WrittenJobs, JobSections, AcceptedSections, AcceptedJobs, JobTexts,
--                   WholeJobs, CarrierLines
--     by bytes      Examples, ClosedExamples, DwellExamples
pub mod Cuts
pub mod LineForms
pub mod LineTests
pub mod SoundTexts
pub mod Steps
pub mod Runs
pub mod WholeChecks
pub mod Checks
pub mod StepTests
pub mod Reached
pub mod Reading
pub mod Lengths
pub mod LongTexts
pub mod LineNumbers
pub mod WordTests
pub mod Tables
pub mod Rows
pub mod FirstSections
pub mod WrittenJobs
pub mod JobSections
pub mod AcceptedSections
pub mod AcceptedJobs
pub mod JobTexts
pub mod WholeJobs
pub mod CarrierLines
pub mod Examples
pub mod ClosedExamples
pub mod DwellExamples

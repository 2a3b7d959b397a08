-- Laws of the questions with a whole job, from the bottom up.
--     steps          Loading, ReadRecords, ReadJob, ReadExactly, WriteRecords, PlanRecords, AskRecords
--     the promises   Unique, UniqueSteps: one outcome for each input; PathAnswers: the questions about one
--                    carrier agree
pub mod Loading
pub mod ReadRecords
pub mod ReadJob
pub mod ReadExactly
pub mod WriteRecords
pub mod PlanRecords
pub mod AskRecords
pub mod Unique
pub mod UniqueSteps
pub mod PathAnswers

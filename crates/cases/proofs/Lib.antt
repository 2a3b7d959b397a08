-- That the tables hold.
--     JobTests       a computed test of a job with an outcome
--     Cases          the tables, each by one such test a line
--     CaseRemarks    what the rules remark of P4, P6, P7 and P10
--     Outcomes       a job has one outcome
pub mod JobTests
pub mod Outcomes
pub mod Cases
pub mod CaseRemarks

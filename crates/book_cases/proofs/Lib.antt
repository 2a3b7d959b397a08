-- That the tables hold.
--     MoveTests        computed tests of a network and a single move
--     BookTests        of the record of a book: 16, 14, 15, the lowest free slot
--     HeldTests        of the carriers held, one by one, and of the smallest tick
--     AdmissionTests   of a call with an outcome
--     Cases            the tables, each by one such test a line
--     Unique           a call has one outcome, and a trolley of calls has one
--     OutcomeTests     computed tests whether two outcomes of a trolley are equal
--     TrolleyTests     of a trolley with an outcome
--     Trolleys         the tables of trolleys, each by one such test a line
pub mod MoveTests
pub mod BookTests
pub mod HeldTests
pub mod AdmissionTests
pub mod Cases
pub mod Unique
pub mod OutcomeTests
pub mod TrolleyTests
pub mod Trolleys

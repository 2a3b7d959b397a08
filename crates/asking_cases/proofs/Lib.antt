-- That the tables hold.
--     Networks         the labels of the networks that many lines have
--     AskingTests      computed tests of a question whether a move may go, with what is said
--     Cases            the tables, each by one such test a line; and that a call has one answer
pub mod Networks
pub mod AskingTests
pub mod Cases

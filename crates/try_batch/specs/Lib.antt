-- The kinds of cases, the numbers and lists of a payload, tables full of marks, and what reading a case leaves.
pub mod Kinds
pub mod Payloads
pub mod Marked
pub mod Cases

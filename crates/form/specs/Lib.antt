-- The form of a job text: lines, sections as data, what a text says; when it is accepted and when, with which
-- number and at which line it is refused; the text of a job; and how far a reader has come.
pub mod Lines
pub mod Sections
pub mod Words
pub mod Entries
pub mod Contents
pub mod Stands
pub mod Texts
pub mod JobText
pub mod Jobs
pub mod Reached

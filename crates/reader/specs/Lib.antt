-- What reading a job text promises (Reading), and what the reader's parts promise to each other, from the
-- bottom up: entries, sections, a whole text.
pub mod Entries
pub mod Sections
pub mod Reading
pub mod Text

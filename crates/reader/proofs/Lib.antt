-- The laws of the reader's parts, from the bottom up, and of its promise.
--     EntryKinds, EntryLines    the lines of a section's entries
--     Skipped            sections that are missing
--     CountLines, SectionKinds, SectionSteps    a section as one step
--     AfterSection, TextStands, TextSteps, TextEnd, WholeText    the sections one after the other, and the
--                        end of a text
--     Left, Outcomes     what is left in the tables, and the three answers
--     Unique, Exactly    one outcome; and exactly when
--     TextBytes          the kinds of an accepted text's bytes
pub mod EntryKinds
pub mod EntryLines
pub mod Skipped
pub mod CountLines
pub mod SectionKinds
pub mod SectionSteps
pub mod AfterSection
pub mod TextStands
pub mod TextSteps
pub mod TextEnd
pub mod WholeText
pub mod Left
pub mod Outcomes
pub mod Unique
pub mod Exactly
pub mod TextBytes

-- The laws of the cursor, from the bottom up.
--     ByteKinds       the kind of a byte
--     FrontNumbers    the number at the front of a text is one
--     Parts, Steps    the parts of a line, and the lines of the form
--     Unique          one answer
pub mod ByteKinds
pub mod FrontNumbers
pub mod Parts
pub mod Steps
pub mod Unique

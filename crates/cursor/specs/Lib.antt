-- What a cursor's methods answer (Steps) and what its private steps do (Parts), over the kinds of bytes
-- (Bytes).
pub mod Bytes
pub mod Parts
pub mod Steps

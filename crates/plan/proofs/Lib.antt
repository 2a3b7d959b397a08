-- What the program needs of the answer to a text.
pub mod Within

-- What the questions about one carrier of a whole job promise.
pub mod Asked

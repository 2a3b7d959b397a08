-- What the contracts over the carriers' records cite.
pub mod Table

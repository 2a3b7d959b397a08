-- What the crate's promises say beyond the definitions of `hall`.
pub mod Held
pub mod Reach

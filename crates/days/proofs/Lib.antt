-- The laws of a day. Theorems has what is owed, in a few lines each.
pub mod Days
pub mod Apart
pub mod Never
pub mod Trolleys
pub mod Later
pub mod Asked
pub mod Theorems

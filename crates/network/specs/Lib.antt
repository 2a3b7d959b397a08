-- What the checks of a list's entries ask, whichever of a job's four lists it is.
pub mod Entries

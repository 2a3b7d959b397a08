-- A day of admissions, what is owed to it, and what a trolley adds to it.
pub mod Day
pub mod Trolleys

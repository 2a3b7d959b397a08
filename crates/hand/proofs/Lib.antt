-- The steps of a walk, by what is lent.
--     Walk      an element of a slice, taken out and given back; loops that count; locals that are freed
--     Arrays    a local array that is lent as a slice
--     Calls     a slice that is lent again; a call by contract
--     Lent      one struct, taken out and given back; a local struct that is lent
pub mod Walk
pub mod Arrays
pub mod Calls
pub mod Lent

-- A book as a struct that is lent: its row, with the laws that the steps of crate `hand` ask of it. A
-- proof by hand over a book that is lent would cite it; none is left. Assumes nothing.
use Rattle.hand.proofs.Walk.{Elem, struct_of}
use Rattle.slots.specs.contracts.Book as B
use Rattle.slots.proofs.Book.TheLaws as B'

abbrev pub book : Elem
book = struct_of B.the_type B'.the_laws B'.the_copy B'.the_plain

-- A record as the element of a list that is lent: its row, with the laws that the steps of crate `hand` ask
-- of an element type. Assumes nothing.
use Rattle.hand.proofs.Walk.{Elem, struct_of}
use Rattle.records.specs.contracts.Record as T
use Rattle.records.proofs.Record.TheLaws as T'

abbrev pub rec : Elem
rec = struct_of T.the_type T'.the_laws T'.the_copy T'.the_plain

-- Tables full of marks (second/README.md, "Batch format").
--     short_places     how many places the longest table of numbers has
--     short_mark       the mark that each of them holds
--     byte_places      how many bytes the room for a text has: more than an output of a text must have
--     byte_mark        the mark that each of them holds
use Rattle.std.specs.Prelude.{ℕ}

abbrev pub short_places : ℕ
short_places = 12400

abbrev pub short_mark : ℕ
short_mark = 7777

abbrev pub byte_places : ℕ
byte_places = 47242

abbrev pub byte_mark : ℕ
byte_mark = 77

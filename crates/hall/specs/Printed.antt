-- How a refusal is printed (the line of rule 10.2, without its line feed).
--     refusal_text r    the word, the number of the fault and the place, with a space between two
use Rattle.std.specs.Prelude.{List, ◌++◌, ℕ, codes, decimal}
use Rattle.hall.specs.declared.Refusal.{Refusal}
use Rattle.hall.specs.Numbers.{number_of}

abbrev pub refusal_text : Refusal → List ℕ
refusal_text r = codes "REFUSED " ++ (decimal (number_of r.fault) ++ (codes " " ++ decimal r.place))

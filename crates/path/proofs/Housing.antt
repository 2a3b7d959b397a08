-- The answer to a question for a house path, put together, whatever is asked behind 9: a short list is
-- refused before anything else and stays as it came; a question that lacks 9 refuses with another number,
-- which leaves the least length zero; an accepted path was laid into a list of zeros, so that zeros stand
-- past its end. Places beyond the least length are those of the list that came. Assumes nothing.
use mathlib.Core.Path.{◌≡◌, refl, sym, ◌∙◌, ap}
use mathlib.Core.List.{List, ◌∷◌}
use Prim.Native.Nat.{ℕ, ◌≤◌, ◌<◌}
use native.Mathlib.Omega.{arith}
use lib.ListN.{length, get_or}
use Rattle.hall.specs.declared.Fault.TheVariants.{ShortTable}
use Rattle.hall.specs.declared.Refusal.{Refusal}
use Rattle.std.specs.Prelude.{Result, Err}
use Rattle.hall.specs.Limits.{node_limit}
use Rattle.hall.specs.Floor.{Network}
use Rattle.hall.specs.Numbers.{number_of}
use Rattle.hall.specs.Stages.{Question, None}
use Rattle.hall.specs.Said.{accepted, refused, said_refusal, Judged}
use Rattle.hall.specs.Questions.{short_table}
use Rattle.hall.specs.Left.{zeroed}
use Rattle.hall.proofs.Compose.{refused_first}
use Rattle.hall.proofs.Places.{asked_here, asked_later, asked_clear}
use Rattle.hall.proofs.Left.{zeroed_length, zeroed_below, zeroed_beyond, NotNine, Among, left_zeroed}
use Rattle.path.specs.Paths.{House, HouseLeft}
use Rattle.path.specs.Steps.{Laid}

-- ---- a question q behind 9

module _ (q : Question) (N : Network) (s g : ℕ) (path : List ℕ) where
  pub left_short : length path < node_limit
      → HouseLeft (short_table (length path < node_limit) ∷ q) N s g path path (refused (number_of ShortTable) 0)
  left_short short = (asked_here short, refl)

  module _ (room : node_limit ≤ length path) where
    not_short : ¬ (length path < node_limit)
    not_short h = omega arith

    pub left_refused : {c : Result Unit Refusal} {r : Refusal} {path' : List ℕ} →
        Among NotNine q → c ≡ Err r → Judged q c → path' ≡ zeroed node_limit path
        → HouseLeft (short_table (length path < node_limit) ∷ q) N s g path path' (said_refusal r)
    left_refused others told judged e =
        let first = refused_first q told judged in
        (asked_later not_short first, e ∙ sym (left_zeroed others first node_limit path))

    pub left_accepted : {path' : List ℕ} {count : ℕ} →
        None q → House N s g path path' count
        → HouseLeft (short_table (length path < node_limit) ∷ q) N s g path path' (accepted count)
    left_accepted none house = (asked_clear not_short none, house)

-- ---- a path laid into zeros

pub house_laid : {N : Network} {s g : ℕ} (path : List ℕ) {zeros path' : List ℕ} {count : ℕ} →
    zeros ≡ zeroed node_limit path → Laid N s g zeros path' count → House N s g path path' count
house_laid path e l = record {
  d = l.d;
  nodes_of_it = l.nodes_of_it;
  is_house_path = l.is_house_path;
  same_length = l.same_length ∙ ap length e ∙ zeroed_length node_limit path;
  zeros = λ k h m. l.beyond k h ∙ ap (λ (t : List ℕ). get_or t k 0) e ∙ zeroed_below node_limit path k m;
  beyond = λ k h.
      l.beyond k (omega (arith, l.fits))
      ∙ ap (λ (t : List ℕ). get_or t k 0) e
      ∙ zeroed_beyond node_limit path k h;
}

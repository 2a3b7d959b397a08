-- The row before the first round: the source at 0 if it is open, every other open node marked as not reached,
-- every closed node with the mark that never falls, and the rest as it came. Rounds, or none, leave the row
-- before the first sweep. Assumes nothing.
--     Begun           the row before the first round, compared with the row that came
--     shut_length     marking the nodes and then the closed ones leaves a row as long
--     begun_open      marking the nodes, the closed ones and then the source leaves it
--     begun_closed    so does marking without the source, where that is closed
--     Unswept         the row before the first sweep, compared with the row that came
--     unswept_spread  the rounds leave it, since labels only fell in them
use mathlib.Core.Path.{◌≡◌, sym, ◌∙◌}
use mathlib.Core.Logic.{◌≢◌}
use mathlib.Core.List.{List}
use Prim.Native.Nat.{ℕ, ◌≤◌, ◌<◌}
use native.Mathlib.Decide.{ℕ_discrete}
use native.Mathlib.Omega.{arith}
use lib.ListN.{length, get_or, set, replicate, length-set, length-replicate, get_or-replicate}
use lib.Seq.{get_or-set_same, get_or-set_other}
use Rattle.std.proofs.lemmas.List.{get_or_past}
use Rattle.hall.specs.Limits.{no_walk_mark}
use Rattle.hall.specs.Floor.{here, Network, Closed, Open}
use Rattle.hall.proofs.FloorTests as tests
use Rattle.hall.proofs.Test.{dec}
use Rattle.walk.specs.Sweep.{unreached_mark, Shut, Labelled, unreached, reached, shut, AllLabelled, OnlyFell}

pub record Begun (N : Network) (source : ℕ) (row₀ row : List ℕ) : Type 0 where
  pub size : length row ≡ length row₀
  pub source_zero : Open N source → get_or row source 0 ≡ 0
  pub unreached : (v : ℕ) → Open N v → v ≢ source → get_or row v 0 ≡ unreached_mark
  pub shut : (v : ℕ) → v < N.nodes → Closed N.closed v → get_or row v 0 ≡ no_walk_mark
  pub beyond : (v : ℕ) → N.nodes ≤ v → get_or row v 0 ≡ get_or row₀ v 0

-- the row of one place a node, once the closed nodes have their mark
module _ (N : Network) (row₀ : List ℕ) (as_long : length row₀ ≡ N.nodes) {row : List ℕ} (shut : Shut N.nodes N.closed (replicate N.nodes unreached_mark) row) where
  pub shut_length : length row ≡ length row₀
  shut_length = shut.size ∙ length-replicate {A = ℕ} N.nodes unreached_mark ∙ sym as_long

  shut_open : (v : ℕ) → Open N v → get_or row v 0 ≡ unreached_mark
  shut_open v o = shut.kept v o.not_closed ∙ get_or-replicate N.nodes v unreached_mark 0 o.numbered

  -- past the row there is nothing
  shut_beyond : (v : ℕ) → N.nodes ≤ v → get_or row v 0 ≡ get_or row₀ v 0
  shut_beyond v h = get_or_past row v 0 (omega (arith, shut_length)) ∙ sym (get_or_past row₀ v 0 (omega arith))

  -- the source's place is marked as not reached, so the source is open
  pub begun_open : (source : ℕ) → source < N.nodes → get_or row source 0 ≡ unreached_mark → Begun N source row₀ (set row source 0)
  begun_open source h e = record {
    size = length-set row source 0 ∙ shut_length;
    source_zero = λ o. get_or-set_same row source 0 0 (omega (arith, shut_length));
    unreached = λ v o n. get_or-set_other row source v 0 0 n ∙ shut_open v o;
    shut = λ v i c. get_or-set_other row source v 0 0 (λ same. other (rw same at c)) ∙ shut.marked v i c;
    beyond = λ v i. get_or-set_other row source v 0 0 (λ same. let z : ⊥ = omega arith in z) ∙ shut_beyond v i;
  }
    where
      other : ¬ Closed N.closed source
      other c = let z : ⊥ = omega (arith, shut.marked source h c) in z

  -- it is not, so the source is closed
  pub begun_closed : (source : ℕ) → get_or row source 0 ≢ unreached_mark → Begun N source row₀ row
  begun_closed source f = record {
    size = shut_length;
    source_zero = λ o. absurd (f (shut_open source o));
    unreached = λ v o n. shut_open v o;
    shut = shut.marked;
    beyond = shut_beyond;
  }

-- ---- the rounds

pub record Unswept (N : Network) (source : ℕ) (row₀ row : List ℕ) : Type 0 where
  pub size : length row ≡ length row₀
  pub beyond : (v : ℕ) → N.nodes ≤ v → get_or row v 0 ≡ get_or row₀ v 0
  pub labelled : AllLabelled N source row
  pub source_zero : Open N source → get_or row source 0 ≡ 0

module _ {N : Network} {source : ℕ} {row₀ row : List ℕ} (start : Begun N source row₀ row) where
  first_open : (v : ℕ) → Open N v → Dec (v ≡ source) → Labelled N source v (get_or row v 0)
  first_open v o (yes e) = let o' : Open N source = rw e at o in rw (e, start.source_zero o') (reached (omega arith) (here o'))
  first_open v o (no e) = unreached o (start.unreached v o e)

  first_labelled : (v : ℕ) → v < N.nodes → Dec (Closed N.closed v) → Labelled N source v (get_or row v 0)
  first_labelled v h (yes c) = shut (λ o. o.not_closed c) (start.shut v h c)
  first_labelled v h (no n) = first_open v (record { numbered = h; not_closed = n }) (ℕ_discrete v source)

  pub unswept_spread : {left : List ℕ} → OnlyFell N.nodes N.lanes row left → Unswept N source row₀ left
  unswept_spread f = record {
    size = f.size ∙ start.size;
    beyond = λ v h. f.beyond v h ∙ start.beyond v h;
    labelled = f.labelled N.closed source (λ v h. first_labelled v h (dec (tests.closed? N.closed v)));
    source_zero = λ o. omega (arith, f.fallen source, start.source_zero o);
  }

-- That the guessed labels are the distances is most of the work of a line, so it is computed once for each
-- network that many lines have, and a line compares its network with those. A line with any other network has
-- its labels tested by itself: the list decides what is quick, and not what is true. Assumes nothing.
--     networks        the networks that many lines have
--     network_at k    the one at place k
--     Listed N        N is one of them
--     rows-once?      `rows?` of MoveTests, by the list where it has the network
use mathlib.Core.Path.{◌≡◌, sym, subst}
use mathlib.Core.Logic.{◌⊎◌, inl, inr}
use mathlib.Core.List.{List, [], ◌∷◌}
use Prim.Native.Nat.{ℕ, ◌<◌}
use lib.ListN.{length, get_or}
use Rattle.hall.specs.Floor.{Network}
use Rattle.book_cases.specs.Case.{hall4, hall5, hall6}
use Rattle.asking_cases.specs.Case.{all_joined}
use Rattle.hall.proofs.Test.{Test, Some, eq?, ◌and?◌, ◌or?◌, map?, all?, any?}
use Rattle.book_cases.proofs.MoveTests.{Rows, rows?}
use Rattle.book_cases.proofs.OutcomeTests.{list?}

abbrev pub networks : List Network
networks = hall6 (1 ∷ []) ∷ all_joined ∷ hall4 [] ∷ hall5 (2 ∷ []) ∷ hall5 [] ∷ []

abbrev pub network_at : ℕ → Network
network_at k = get_or networks k (hall5 [])

pub networks_labelled : (k : ℕ) → k < length networks → Rows (network_at k)
networks_labelled = (all? (λ k. rows? (network_at k)) (length networks)).sound tt

-- ---- one of them

abbrev pub same-network? : (N M : Network) → Test (N ≡ M)
same-network? N M =
    map? {A = (N.nodes ≡ M.nodes) × ((N.lanes ≡ M.lanes) × (N.closed ≡ M.closed))}
    (λ h i. record { nodes = h.0 i; lanes = h.1.0 i; closed = h.1.1 i })
    (λ e. ((λ i. (e i).nodes), ((λ i. (e i).lanes), (λ i. (e i).closed))))
    (eq? N.nodes M.nodes and? list? eq? N.lanes M.lanes and? list? eq? N.closed M.closed)

module _ (N : Network) where
  abbrev pub Listed : Type 0
  Listed = Some (λ k. N ≡ network_at k) (length networks)

  pub rows_by : Listed ⊎ Rows N → Rows N
  rows_by (inl h) = subst Rows (sym h.is) (networks_labelled h.k h.below)
  rows_by (inr rows) = rows

  abbrev pub rows-once? : Test (Rows N)
  rows-once? = map? rows_by inr (any? (λ k. same-network? N (network_at k)) (length networks) or? rows? N)

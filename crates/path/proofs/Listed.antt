-- A list against the terms of a shortest path. A list that leads from start to goal by lanes, stands on open
-- nodes and has the distance's length is a shortest path, and there is no other way to be one. That its nodes
-- are open is read off the row of distances to the goal: a node with a distance there is in a walk, and so it
-- is open; a node of a path has such a distance, since the rest of the path is a walk to the goal. The terms
-- can be decided, so that a list without a fault is a shortest path. Assumes nothing.
--     Four       the terms of `Walks` by themselves, each of which can be decided
use mathlib.Core.Path.{◌≡◌, ◌∙◌, ap}
use mathlib.Core.Logic.{◌⊎◌, inl, inr}
use mathlib.Core.Bool.{Bool, true, false}
use mathlib.Core.List.{List, [], ◌∷◌}
use Prim.Native.Nat.{ℕ, ◌+◌, ◌-◌, ◌<◌}
use native.Mathlib.Decide.{ℕ_discrete, dec_lt, map_dec}
use native.Mathlib.Omega.{arith}
use lib.ListN.{length, get_or}
use Rattle.hall.specs.declared.Refusal.{Refusal}
use Rattle.std.specs.Prelude.{Result, Err, Some}
use Rattle.std.specs.List.{slice_get}
use Rattle.std.proofs.lemmas.Option.{slice_get_within, get_or_from_slice_get}
use Rattle.hall.specs.Rule.{Answers}
use Rattle.hall.specs.declared.Fault.TheVariants.{Unreachable, NotShortest}
use Rattle.hall.specs.Floor.{Dist, NoWalk, Lane, Network, Open, floor}
use Rattle.hall.specs.Path.{PathOf, ShortestPath}
use Rattle.hall.specs.Numbers.{number_of}
use Rattle.hall.specs.Stages.{First, None, asked}
use Rattle.hall.specs.Said.{Judged}
use Rattle.hall.specs.Questions.{unfit, move_ends, move_question, list_of_move}
use Rattle.hall.proofs.Walks.{begins_on_node, reverse, dist_unique, lanes_symmetric, marked_none}
use Rattle.hall.proofs.Paths.{to_goal}
use Rattle.hall.proofs.Lowest.{dec_and, dec_not, Lowest, found, nowhere, lowest_below}
use Rattle.hall.proofs.Decide.{lane?, open?, joined_or_not}
use Rattle.hall.proofs.Stages.{none_excludes}
use Rattle.hall.proofs.Compose.{none_at_all, none_append, first_after, none_split, refused_first}
use Rattle.hall.proofs.Places.{asked_here, asked_clear, none_asked}
use Rattle.path.specs.Paths.{Unfit, Passes}
use Rattle.path.specs.Steps.{Downhill, Walks, AllOnWay}
use Rattle.path.proofs.Downhill.{row_distance, start_distance}

-- ---- whether a list walks can be decided

stable : {A : Type 0} → Dec A → ¬ (¬ A) → A
stable (yes a) h = a
stable (no k) h = absurd (h k)

dec_all : {P : ℕ → Type 0} → ((k : ℕ) → Dec (P k)) → (n : ℕ) → Dec ((k : ℕ) → k < n → P k)
dec_all {P} decide n = cases (lowest_below (λ k. dec_not (decide k)) n)
  where
    cases : Lowest (λ k. ¬ P k) n → Dec ((k : ℕ) → k < n → P k)
    cases (found k l bad first) = no (λ all. bad (all k l))
    cases (nowhere none) = yes (λ k l. stable (decide k) (none k l))

module _ (lanes : List ℕ) (s g : ℕ) (list : List ℕ) where
  abbrev Four : Type 0
  Four =
      ((0 < length list) × (get_or list 0 0 ≡ s))
      × ((get_or list (length list - 1) 0 ≡ g)
      × ((k : ℕ) → k < length list - 1 → Lane lanes (get_or list k 0) (get_or list (k + 1) 0)))

  from_four : Four → Walks lanes s g list
  from_four h =
      record { some = h.0.0; begins = h.0.1; ends = h.1.0; joins = λ k l. h.1.1 k (omega arith) }

  to_four : Walks lanes s g list → Four
  to_four w = ((w.some, w.begins), (w.ends, λ k l. w.joins k (omega arith)))

  walks? : Dec (Walks lanes s g list)
  walks? =
      map_dec from_four to_four
      (dec_and (dec_and (dec_lt 0 (length list)) (ℕ_discrete (get_or list 0 0) s))
      (dec_and (ℕ_discrete (get_or list (length list - 1) 0) g)
      (dec_all (λ k. lane? lanes (get_or list k 0) (get_or list (k + 1) 0)) (length list - 1))))

-- ---- the terms as they are tested: the first number, the last, and each number with the next

pub walks_told : (lanes list : List ℕ) {s g : ℕ} → slice_get list 0 ≡ Some s
    → slice_get list (length list - 1) ≡ Some g → (r : Bool)
    → Answers r ((k : ℕ) → k + 1 < length list → Lane lanes (get_or list k 0) (get_or list (k + 1) 0))
    → Answers r (Walks lanes s g list)
walks_told lanes list {s} {g} first last true joins = record {
  some = slice_get_within list 0 s first;
  begins = get_or_from_slice_get list 0 s 0 first;
  ends = get_or_from_slice_get list (length list - 1) g 0 last;
  joins = joins;
}
walks_told lanes list first last false apart = λ w. apart w.joins

-- ---- walks and paths

module _ (N : Network) (s g : ℕ) (list : List ℕ) where
  path_walks : {d : ℕ} → PathOf (floor N) s g d list → Walks N.lanes s g list
  path_walks {d} p =
      let e : length list - 1 ≡ d = omega (arith, p.size) in
      record {
        some = omega (arith, p.size);
        begins = p.begins;
        ends = rw e p.ends;
        joins = λ k l. p.joins k (omega arith);
      }

  -- a shortest path has the distance's length
  shortest_size : {d : ℕ} → Dist (floor N) s g d → ShortestPath (floor N) s g list → length list ≡ d + 1
  shortest_size h p = p.is_path.size ∙ ap (λ (n : ℕ). n + 1) (dist_unique p.short h)

  -- every number of the list is an open node
  abbrev OnOpen : Type 0
  OnOpen = (k : ℕ) → k < length list → Open N (get_or list k 0)

  path_open : {d : ℕ} → PathOf (floor N) s g d list → OnOpen
  path_open p k l = p.nodes k (omega (arith, p.size))

  module _ {d : ℕ} (short : Dist (floor N) s g d) where
    walks_path : length list ≡ d + 1 → OnOpen → Walks N.lanes s g list → PathOf (floor N) s g d list
    walks_path size stands w = record {
      size = size;
      begins = w.begins;
      ends = let e : length list - 1 ≡ d = omega arith in rw e at w.ends;
      nodes = λ k l. stands k (omega arith);
      joins = λ k l. w.joins k (omega arith);
    }

    is_shortest : length list ≡ d + 1 → OnOpen → Walks N.lanes s g list → ShortestPath (floor N) s g list
    is_shortest size stands w = record { d = d; short = short; is_path = walks_path size stands w }

    shortest? : Dec (ShortestPath (floor N) s g list)
    shortest? =
        cases (ℕ_discrete (length list) (d + 1)) (dec_all (λ k. open? N (get_or list k 0)) (length list))
        (walks? N.lanes s g list)
      where
        cases : Dec (length list ≡ d + 1) → Dec OnOpen → Dec (Walks N.lanes s g list)
            → Dec (ShortestPath (floor N) s g list)
        cases (yes e) (yes o) (yes w) = yes (is_shortest e o w)
        cases (no k) o w = no (λ p. k (shortest_size short p))
        cases (yes e) (no k) w = no (λ p. k (path_open p.is_path))
        cases (yes e) (yes o) (no k) = no (λ p. k (path_walks p.is_path))

  -- ---- what the row of distances to the goal tells

  module _ {row : List ℕ} (down : Downhill N s g row) where
    -- a node with a walk to the goal is open
    stands_on_open : AllOnWay N.nodes row list → OnOpen
    stands_on_open stands k l =
        begins_on_node
        (row_distance down (get_or list k 0)
        (stands k l).numbered (stands k l).reached
        ).walk

    -- and a node of a path has such a walk, the rest of the path
    path_stands : {d : ℕ} → PathOf (floor N) s g d list → AllOnWay N.nodes row list
    path_stands {d} p k l =
        let on = (path_open p k l).numbered in
        let rest = to_goal p k (omega (arith, p.size)) in
        record {
          numbered = on;
          reached = λ e.
              marked_none (down.distances (get_or list k 0) on) e (d - k) (reverse (lanes_symmetric N) rest);
        }

  -- ---- what the question about one list answers

  -- 8 is asked after the other checks of the move
  walk_of_none : None (move_question N s g) → ¬ NoWalk (floor N) s g
  walk_of_none none =
      (none_asked (none_split (move_ends N s g) (asked Unreachable 0 (NoWalk (floor N) s g) ∷ []) none).1).0

  module _ (none : None (move_question N s g)) {row : List ℕ} (down : Downhill N s g row) where
    pub list_passes : length list ≡ get_or row s 0 + 1 → AllOnWay N.nodes row list
        → Walks N.lanes s g list
        → None (list_of_move N s g (Unfit N s g list))
    list_passes size stands w =
        let fit = is_shortest (start_distance down) size (stands_on_open down stands) w in
        none_append none (asked_clear (λ n. n fit) none_at_all)

    -- a list that lacks one of the terms: it has another length, stands on a node without a walk to the goal
    -- or does not lead there
    pub list_unfit :
        ¬ ((length list ≡ get_or row s 0 + 1) × AllOnWay N.nodes row list × Walks N.lanes s g list)
        → First (list_of_move N s g (Unfit N s g list)) (number_of NotShortest) 0
    list_unfit h = first_after none (asked_here (λ p. h (terms p)))
      where
        terms : ShortestPath (floor N) s g list
            → (length list ≡ get_or row s 0 + 1) × AllOnWay N.nodes row list × Walks N.lanes s g list
        terms p =
            (shortest_size (start_distance down) p, path_stands down p.is_path, path_walks p.is_path)

  -- ---- a list passes exactly if the question about it finds no fault

  pub passes_none : Passes N s g list → None (list_of_move N s g (Unfit N s g list))
  passes_none p = none_append p.no_fault (asked_clear (λ n. n p.shortest) none_at_all)

  pub none_passes : None (list_of_move N s g (Unfit N s g list)) → Passes N s g list
  none_passes none = record { no_fault = parts.0; shortest = by_distance (joined_or_not N s g) }
    where
      parts : None (move_question N s g) × None (unfit (Unfit N s g list) ∷ [])
      parts = none_split (move_question N s g) (unfit (Unfit N s g list) ∷ []) none

      by_distance : ((d : ℕ) × Dist (floor N) s g d) ⊎ NoWalk (floor N) s g
          → ShortestPath (floor N) s g list
      by_distance (inl h) = stable (shortest? h.1) (none_asked parts.1).0
      by_distance (inr no_way) = absurd (walk_of_none parts.0 no_way)

  -- and a list that the question refuses does not pass
  pub refused_fails : {c : Result Unit Refusal} {r : Refusal} →
      c ≡ Err r → Judged (list_of_move N s g (Unfit N s g list)) c → ¬ Passes N s g list
  refused_fails e a p =
      none_excludes (refused_first (list_of_move N s g (Unfit N s g list)) e a) (passes_none p)

-- The house path as it is laid, node after node. So far `at` lanes are laid and `left` are left to the goal;
-- each node laid is at its distance to the goal, and each step went to the lowest of the neighbours that
-- are one lane nearer. One step more keeps this, since no place laid before changes. At the goal nothing is
-- left, and what is laid is the house path. Assumes nothing.
--     HouseStep    the step from node x at place k to node y is that of a house path of d lanes
--     Laying       where the laying stands, at node u
use mathlib.Core.Path.{◌≡◌, refl, sym, ◌∙◌, ap}
use mathlib.Core.Logic.{◌≢◌}
use mathlib.Core.List.{List}
use Prim.Native.Nat.{ℕ, zero, suc, ◌+◌, ◌-◌, ◌≤◌, ◌<◌}
use native.Mathlib.Decide.{dec_le, dec_lt}
use native.Mathlib.Omega.{arith}
use lib.ListN.{length, get_or, set, take, length-set}
use lib.Seq.{get_or-set_same, get_or-set_other, get_or-take, length-take-le}
use Rattle.std.specs.Prelude.{Option, Some, IsSome}
use Rattle.hall.specs.Limits.{node_limit}
use Rattle.hall.specs.Floor.{Floor, Dist, Network, floor}
use Rattle.hall.specs.Path.{PathOf}
use Rattle.hall.proofs.Walks.{begins_on_node}
use Rattle.path.specs.Steps.{Downhill, Next, LowestNext, Laid}
use Rattle.path.proofs.Downhill.{lanes_left_lem, none_left, start_distance, start_small}
use Rattle.path.proofs.Downhill.{next_of, next_distance, next_found}

pub record HouseStep (F : Floor) (g d k x y : ℕ) : Type 0 where
  pub lane : F.Joined x y
  pub lowest : (v : ℕ) → F.Joined x v → Dist F v g (d - (k + 1)) → y ≤ v

pub record Laying (N : Network) (s g d : ℕ) (path₀ : List ℕ) (u left at : ℕ) (path : List ℕ) : Type 0 where
  -- the whole is d lanes, and its nodes find room
  pub short : Dist (floor N) s g d
  pub small : d ≤ 1023
  pub room : node_limit ≤ length path₀
  pub size : length path ≡ length path₀
  pub adds : at + left ≡ d
  -- the path begins at the start and stands at u
  pub begins : get_or path 0 0 ≡ s
  pub stands : get_or path at 0 ≡ u
  -- each node's distance, each step
  pub ways : (k : ℕ) → k ≤ at → Dist (floor N) (get_or path k 0) g (d - k)
  pub steps : (k : ℕ) → k < at → HouseStep (floor N) g d k (get_or path k 0) (get_or path (k + 1) 0)
  -- places past u are as they came
  pub beyond : (k : ℕ) → at < k → get_or path k 0 ≡ get_or path₀ k 0

pub laying_first : {N : Network} {s g : ℕ} {row : List ℕ} (path₀ : List ℕ) →
    Downhill N s g row → node_limit ≤ length path₀
    → Laying N s g (get_or row s 0) (set path₀ 0 s) s (get_or row s 0) 0 (set path₀ 0 s)
laying_first {N} {s} {g} {row} path₀ down room = record {
  short = start_distance down;
  small = start_small down;
  room = rw length-set room;
  size = refl;
  adds = omega arith;
  begins = first;
  stands = first;
  ways = way;
  steps = λ k l. absurd (let x : ⊥ = omega arith in x);
  beyond = λ k l. refl;
}
  where
    first : get_or (set path₀ 0 s) 0 0 ≡ s
    first = get_or-set_same path₀ 0 s 0 (omega arith)

    way : (k : ℕ) → k ≤ 0 → Dist (floor N) (get_or (set path₀ 0 s) k 0) g (get_or row s 0 - k)
    way zero l = let e : get_or row s 0 - 0 ≡ get_or row s 0 = omega arith in rw (first, e) (start_distance down)
    way (suc k) l = absurd (let x : ⊥ = omega arith in x)

module _ {N : Network} {s g d : ℕ} {path₀ : List ℕ} {u left at : ℕ} {path : List ℕ}
    (l : Laying N s g d path₀ u left at path) where
  -- u has `left` lanes to go
  pub distance_left : Dist (floor N) u g left
  distance_left =
      let e : d - at ≡ left = omega (arith, l.adds) in
      rw e at (rw l.stands at (l.ways at (omega arith)))

  pub place_free : at < node_limit
  place_free = omega (arith, l.adds, l.small)

  pub some_left : u ≢ g → 0 < left
  some_left = lanes_left_lem distance_left

  -- and so the next place is in the list
  pub next_place : u ≢ g → at + 1 < length path
  next_place away = omega (arith, some_left away, l.adds, l.small, l.size, l.room)

  -- and there is a next node
  pub next_there : {row : List ℕ} (r : Option ℕ) {m : ℕ} → Downhill N s g row → m + 1 ≡ left
      → LowestNext N.nodes N.lanes row u m r → IsSome r
  next_there r {m} down one_less n =
      let e : left ≡ suc m = omega arith in
      let found = next_found down (omega (arith, l.adds, l.small)) r (rw e at distance_left) n in
      rw found.1 refl

  -- ---- one step more

  module _ {row : List ℕ} (down : Downhill N s g row) {m v : ℕ} (one_less : m + 1 ≡ left)
      (n : LowestNext N.nodes N.lanes row u m (Some v)) where
    few_left : m ≤ 1023
    few_left = omega (arith, l.adds, l.small)

    next : Next N.nodes N.lanes row u m v
    next = n.is_next v refl

    rest : d - (at + 1) ≡ m
    rest = omega (arith, l.adds)

    as_laid : (k : ℕ) → k ≤ at → get_or (set path (at + 1) v) k 0 ≡ get_or path k 0
    as_laid k h = get_or-set_other path (at + 1) k v 0 (λ e. omega arith)

    new : get_or (set path (at + 1) v) (at + 1) 0 ≡ v
    new = get_or-set_same path (at + 1) v 0 (omega (arith, l.adds, l.small, l.size, l.room))

    new_step : HouseStep (floor N) g d at u v
    new_step = record {
      lane = next.lane;
      lowest = λ w j h. n.lowest w (next_of down few_left w j (rw rest at h));
    }

    pub laying_next : Laying N s g d path₀ v m (at + 1) (set path (at + 1) v)
    laying_next = record {
      short = l.short;
      small = l.small;
      room = l.room;
      size = length-set path (at + 1) v ∙ l.size;
      adds = omega (arith, l.adds);
      begins = as_laid 0 (omega arith) ∙ l.begins;
      stands = new;
      ways = λ k h. way k (dec_le k at) h;
      steps = λ k h. at_step k (dec_lt k at) h;
      beyond = λ k h. get_or-set_other path (at + 1) k v 0 (λ e. omega arith) ∙ l.beyond k (omega arith);
    }
      where
        way : (k : ℕ) → Dec (k ≤ at) → k ≤ at + 1
            → Dist (floor N) (get_or (set path (at + 1) v) k 0) g (d - k)
        way k (yes h) x = rw (as_laid k h) (l.ways k h)
        way k (no h) x =
            let e : k ≡ at + 1 = omega arith in
            rw (e, new, rest) (next_distance down few_left next)

        at_step : (k : ℕ) → Dec (k < at) → k < at + 1
            → HouseStep (floor N) g d k
            (get_or (set path (at + 1) v) k 0)
            (get_or (set path (at + 1) v) (k + 1) 0)
        at_step k (yes h) x = rw (as_laid k (omega arith), as_laid (k + 1) (omega arith)) (l.steps k h)
        at_step k (no h) x =
            let e : k ≡ at = omega arith in
            rw (e, as_laid at (omega arith), new, l.stands) new_step

  -- ---- at the goal

  module _ (there : u ≡ g) where
    all_laid : at ≡ d
    all_laid = omega (arith, none_left distance_left there, l.adds)

    in_part : (k : ℕ) → k ≤ d → get_or (take (at + 1) path) k 0 ≡ get_or path k 0
    in_part k h = get_or-take (at + 1) path k 0 (omega (arith, all_laid))

    step_at : (k : ℕ) → k < d
        → HouseStep (floor N) g d k (get_or (take (at + 1) path) k 0) (get_or (take (at + 1) path) (k + 1) 0)
    step_at k h =
        rw (in_part k (omega arith), in_part (k + 1) (omega arith)) (l.steps k (omega (arith, all_laid)))

    laid_path : PathOf (floor N) s g d (take (at + 1) path)
    laid_path = record {
      size =
          let e : at + 1 ≤ length path = omega (arith, place_free, l.size, l.room) in
          length-take-le (at + 1) path e ∙ ap (λ (n : ℕ). n + 1) all_laid;
      begins = in_part 0 (omega arith) ∙ l.begins;
      ends = in_part d (omega arith) ∙ ap (λ (k : ℕ). get_or path k 0) (sym all_laid) ∙ l.stands ∙ there;
      nodes = λ k h. rw (in_part k h) (begins_on_node (l.ways k (omega (arith, all_laid))).walk);
      joins = λ k h. (step_at k h).lane;
    }

    pub laying_done : Laid N s g path₀ path (at + 1)
    laying_done = record {
      d = d;
      nodes_of_it = omega (arith, all_laid);
      fits = omega (arith, place_free);
      is_house_path = record { short = l.short; is_path = laid_path; lowest = λ k h. (step_at k h).lowest };
      same_length = l.size;
      beyond = λ k h. l.beyond k (omega arith);
    }

-- the list as it came, before the start was put in its first place
pub laid_from : {N : Network} {s g : ℕ} {path' : List ℕ} {count : ℕ} (path : List ℕ) →
    Laid N s g (set path 0 s) path' count → Laid N s g path path' count
laid_from {s = s} path l = record {
  d = l.d;
  nodes_of_it = l.nodes_of_it;
  fits = l.fits;
  is_house_path = l.is_house_path;
  same_length = l.same_length ∙ length-set path 0 s;
  beyond = λ k h. l.beyond k h ∙ get_or-set_other path 0 k s 0 (λ e. omega (arith, l.nodes_of_it));
}

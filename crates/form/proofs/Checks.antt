-- The laws of the checks of an entry. Their numbers are 3, 4, 5, 7, 12 and 13, and in a line the lower is
-- asked before the higher (rule 7.9). They are decided, by the tests that the questions from numbers have
-- (hall's FaultTests). They look only at the numbers up to their entry's own: each reads places below its
-- entry's end, so that two lists that agree there give one answer. The closed nodes, which a move's check
-- looks at too, are those of an earlier section. What a new kind of entry has to show is shown here. Assumes
-- nothing.
--     Rises            the numbers of a stage's checks rise
--     checks_rise      those of an entry do
--     TextNumber       a number with which a text may be refused: 1 to 5, 7, 12 or 13
--     check_numbers    the number of a check that holds is 3, 4, 5, 7, 12 or 13
--     decides          each check of an entry is decided
--     nodes_steady, lanes_steady, closed_steady, carriers_steady, order_steady    those of each section of a
--                      job text look only at the numbers up to their entry's own
use mathlib.Core.Path.{◌≡◌, refl, sym, ◌∙◌}
use mathlib.Core.Logic.{inl, inr, ◌≢◌}
use mathlib.Core.List.{List, [], ◌∷◌}
use Prim.Native.Nat.{ℕ, suc, ◌+◌, ◌*◌, ◌≤◌, ◌<◌}
use native.Mathlib.Omega.{arith}
use lib.ListN.{get_or}
use Rattle.hall.specs.Floor.{lower, higher}
use Rattle.hall.specs.Stages.{Stage, here, later, FirstAt}
use Rattle.hall.specs.Refusals.{Exceeds, by_lower, by_higher, LaneFault, no_node, not_below, not_rising}
use Rattle.hall.specs.Refusals.{ClosedFault, no_such_node, not_higher, NoNode-at, ClosedEnd-at}
use Rattle.hall.specs.Refusals.{BadOrder-at, no_carrier, stands_earlier}
use Rattle.hall.proofs.Stages.{DecidedAt}
use Rattle.hall.proofs.Test.{dec}
use Rattle.hall.proofs.FaultTests.{lane-fault?, closed-fault?, move-checks?, bad-order?}
use Rattle.form.specs.Sections.{Entry, none, lane, closed_node, move, place, Content, count_of, numbers_of}
use Rattle.form.specs.Words.{NODES, CLOSED, CARRIERS}
use Rattle.form.specs.Entries.{checks_of}
use Rattle.form.specs.JobText.{nodes_section, lanes_section, closed_section, carriers_section, order_section}
use Rattle.form.proofs.WholeChecks.{Agree, Steady}

-- ---- their numbers

abbrev pub Rises : Stage → Type 0
Rises [] = Unit
Rises (c ∷ []) = Unit
Rises (c ∷ d ∷ s) = (c.number < d.number) × Rises (d ∷ s)

pub checks_rise : (x : Entry) (read : List Content) (l : List ℕ) → Rises (checks_of x read l)
checks_rise none read l = tt
checks_rise lane read l = tt
checks_rise closed_node read l = tt
checks_rise move read l = (omega arith, (omega arith, tt))
checks_rise place read l = tt

abbrev pub TextNumber : ℕ → Type 0
TextNumber n = (1 ≤ n) × (n ≤ 13) × (n ≢ 6) × (n ≢ 8) × (n ≢ 9) × (n ≢ 10) × (n ≢ 11)

number : {f : ℕ} (n : ℕ) → (3 ≤ n) × TextNumber n → f ≡ n → (3 ≤ f) × TextNumber f
number n is e = rw e is

pub check_numbers : (x : Entry) (read : List Content) (l : List ℕ) (f k : ℕ) → FirstAt (checks_of x read l) f k
    → (3 ≤ f) × TextNumber f
check_numbers none read l f k h = absurd h
check_numbers lane read l f k (here h) = number 3 (omega arith) h.0
check_numbers lane read l f k (later n h) = absurd h
check_numbers closed_node read l f k (here h) = number 12 (omega arith) h.0
check_numbers closed_node read l f k (later n h) = absurd h
check_numbers move read l f k (here h) = number 4 (omega arith) h.0
check_numbers move read l f k (later n (here h)) = number 5 (omega arith) h.0
check_numbers move read l f k (later n (later m (here h))) = number 13 (omega arith) h.0
check_numbers move read l f k (later n (later m (later o h))) = absurd h
check_numbers place read l f k (here h) = number 7 (omega arith) h.0
check_numbers place read l f k (later n h) = absurd h

-- ---- they are decided

pub decides : (x : Entry) (read : List Content) (l : List ℕ) (k : ℕ) → DecidedAt (checks_of x read l) k
decides none read l k = tt
decides lane read l k = (dec (lane-fault? (count_of NODES read) l k), tt)
decides closed_node read l k = (dec (closed-fault? (count_of NODES read) l k), tt)
decides move read l k =
    let t = move-checks? (count_of NODES read) (numbers_of CLOSED read) l k in
    (dec t.0, (dec t.1.0, (dec t.1.1.0, tt)))
decides place read l k = (dec (bad-order? (count_of CARRIERS read) l k), tt)

-- ---- what they look at

agree_back : {n : ℕ} (l m : List ℕ) → Agree n l m → Agree n m l
agree_back l m a i h = sym (a i h)

module _ (l m : List ℕ) (k : ℕ) where
  module _ (a : Agree (2 * suc k) l m) where
    -- of a lane, or of a move: its start and its goal stand as the ends of a lane do
    low : (j : ℕ) → j ≤ k → lower l j ≡ lower m j
    low j h = a (2 * j) (omega arith)

    high : (j : ℕ) → j ≤ k → higher l j ≡ higher m j
    high j h = a (2 * j + 1) (omega arith)

    exceeds_same : (j : ℕ) → j ≤ k → Exceeds m k j → Exceeds l k j
    exceeds_same j h (by_lower x) = by_lower (rw (low j h, low k (omega arith)) x)
    exceeds_same j h (by_higher e x) =
        by_higher (rw (low j h, low k (omega arith)) e) (rw (high j h, high k (omega arith)) x)

    lane_same : (n : ℕ) → LaneFault n l k → LaneFault n m k
    lane_same n (no_node (inl x)) = no_node (inl (rw (← low k (omega arith)) x))
    lane_same n (no_node (inr x)) = no_node (inr (rw (← high k (omega arith)) x))
    lane_same n (not_below x) = not_below (rw (← low k (omega arith), ← high k (omega arith)) x)
    lane_same n (not_rising {j} e x) = not_rising {j = j} e (λ y. x (exceeds_same j (omega arith) y))

    no_node_same : (n : ℕ) → NoNode-at n (lower l k) (higher l k) → NoNode-at n (lower m k) (higher m k)
    no_node_same n (inl x) = inl (rw (← low k (omega arith)) x)
    no_node_same n (inr x) = inr (rw (← high k (omega arith)) x)

    ends_same : lower l k ≡ higher l k → lower m k ≡ higher m k
    ends_same e = sym (low k (omega arith)) ∙ e ∙ high k (omega arith)

    shut_same : (c : List ℕ) → ClosedEnd-at c (lower l k) (higher l k) → ClosedEnd-at c (lower m k) (higher m k)
    shut_same c (inl x) = inl (rw (← low k (omega arith)) x)
    shut_same c (inr x) = inr (rw (← high k (omega arith)) x)

  module _ (a : Agree (1 * suc k) l m) where
    at_place : (j : ℕ) → j ≤ k → get_or l j 0 ≡ get_or m j 0
    at_place j h = a j (omega arith)

    closed_same : (n : ℕ) → ClosedFault n l k → ClosedFault n m k
    closed_same n (no_such_node x) = no_such_node (rw (← at_place k (omega arith)) x)
    closed_same n (not_higher j e x) =
        not_higher j e (rw (← at_place k (omega arith), ← at_place j (omega arith)) x)

    order_same : (n : ℕ) → BadOrder-at n l k → BadOrder-at n m k
    order_same n (no_carrier x) = no_carrier (rw (← at_place k (omega arith)) x)
    order_same n (stands_earlier {q} h e) =
        stands_earlier {q = q} h (sym (at_place q (omega arith)) ∙ e ∙ at_place k (omega arith))

pub nodes_steady : Steady nodes_section
nodes_steady read l m k a = tt

pub lanes_steady : Steady lanes_section
lanes_steady read l m k a =
    let b = agree_back l m a in
    (refl, (λ x. lane_same l m k a _ x, λ x. lane_same m l k b _ x), tt)

pub closed_steady : Steady closed_section
closed_steady read l m k a =
    let b = agree_back l m a in
    (refl, (λ x. closed_same l m k a _ x, λ x. closed_same m l k b _ x), tt)

pub carriers_steady : Steady carriers_section
carriers_steady read l m k a =
    let b = agree_back l m a in (
      refl,
      (λ x. no_node_same l m k a _ x, λ x. no_node_same m l k b _ x),
      (
        refl,
        (λ x. ends_same l m k a x, λ x. ends_same m l k b x),
        (refl, (λ x. shut_same l m k a _ x, λ x. shut_same m l k b _ x), tt),
      ),
    )

pub order_steady : Steady order_section
order_steady read l m k a =
    let b = agree_back l m a in
    (refl, (λ x. order_same l m k a _ x, λ x. order_same m l k b _ x), tt)

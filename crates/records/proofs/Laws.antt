-- What callers know of the records and of their numbers. Loading writes the moves and keeps the length of
-- what it writes to; storing keeps the number of records, decides each record below the count and keeps every
-- other one. Storing times keeps all moves: the numbers of a job are the same before and after. Each law goes
-- by induction over the lists, side by side. Assumes nothing.
--     moves_length, moves_count                   the moves of the records as a list of numbers: how long it
--                                                 is, and of how many carriers
--     moves_start, moves_goal                     what stands where in it
--     moved_length, moved_is, moved_front         the numbers once the moves are loaded over them
--     timed_at, timed_past                        the records once the first n are timed: their number, each
--                                                 below n, each from n on
--     timed_moves, timed_same                     storing times changes no move, and reads no time past the
--                                                 count
--     placed_at, placed_past                      the records once the first n are placed
--     placed_moves                                their moves, where all n records and moves are there
use mathlib.Core.Path.{◌≡◌, refl, ap}
use Prim.Native.Nat.{ℕ, zero, suc, ◌+◌, ◌*◌, ◌/◌, ◌≤◌, ◌<◌}
use native.Mathlib.Nat.{not-suc-le-zero}
use native.Mathlib.Omega.{arith}
use mathlib.Core.List.{List, [], ◌∷◌, ◌++◌}
use lib.ListN.{length, get_or, take, drop}
use lib.Seq.{take_at}
use Rattle.records.specs.declared.Record.{Record}
use Rattle.records.specs.Table.{record_at, with_times, fresh, moves_of, moved, timed, placed}
use Rattle.records.proofs.Lists.{two_more, three_more}

-- ---- the moves of the records

pub moves_length : (rs : List Record) → length (moves_of rs) ≡ 2 * length rs
moves_length [] = refl
moves_length (r ∷ rs) = rw (two_more (length rs)) (ap (λ (n : ℕ). suc (suc n)) (moves_length rs))

-- the carriers of the job that has these moves
pub moves_count : (rs : List Record) → length (moves_of rs) / 2 ≡ length rs
moves_count rs = rw (moves_length rs) (omega arith)

pub moves_start : (rs : List Record) (i : ℕ) → get_or (moves_of rs) (2 * i) 0 ≡ (record_at rs i).start
moves_start [] i = refl
moves_start (r ∷ rs) zero = refl
moves_start (r ∷ rs) (suc i) = rw (two_more i) (moves_start rs i)

pub moves_goal : (rs : List Record) (i : ℕ) → get_or (moves_of rs) (2 * i + 1) 0 ≡ (record_at rs i).goal
moves_goal [] i = refl
moves_goal (r ∷ rs) zero = refl
moves_goal (r ∷ rs) (suc i) = rw (three_more i) (moves_goal rs i)

-- ---- loaded

pub moved_length : (rs : List Record) (ms : List ℕ) → length (moved rs ms) ≡ length ms
moved_length [] ms = refl
moved_length (r ∷ rs) [] = refl
moved_length (r ∷ rs) (a ∷ []) = refl
moved_length (r ∷ rs) (a ∷ b ∷ ms) = ap (λ (n : ℕ). suc (suc n)) (moved_length rs ms)

-- where all moves have room, they stand in front and the rest is kept
pub moved_is : (rs : List Record) (ms : List ℕ)
    → 2 * length rs ≤ length ms → moved rs ms ≡ moves_of rs ++ drop (2 * length rs) ms
moved_is [] ms m = refl
moved_is (r ∷ rs) [] m = absurd (let x : ⊥ = omega (arith, two_more (length rs)) in x)
moved_is (r ∷ rs) (a ∷ []) m = absurd (let x : ⊥ = omega (arith, two_more (length rs)) in x)
moved_is (r ∷ rs) (a ∷ b ∷ ms) m =
    rw (two_more (length rs))
    (ap (λ (t : List ℕ). r.start ∷ r.goal ∷ t) (moved_is rs ms (omega (arith, two_more (length rs)))))

pub moved_front : (rs : List Record) (ms : List ℕ)
    → 2 * length rs ≤ length ms → take (2 * length rs) (moved rs ms) ≡ moves_of rs
moved_front rs ms m =
    rw (moved_is rs ms m) (take_at (moves_of rs) (drop (2 * length rs) ms) (2 * length rs) (moves_length rs))

-- ---- timed

pub timed_at : (n : ℕ) (rs : List Record) (ds ks : List ℕ) (i : ℕ)
    → i < n → i < length rs → i < length ds → i < length ks
    → record_at (timed n rs ds ks) i ≡ with_times (record_at rs i) (get_or ds i 0) (get_or ks i 0)
timed_at zero rs ds ks i h l d k = absurd (not-suc-le-zero h)
timed_at (suc n) [] ds ks i h l d k = absurd (not-suc-le-zero l)
timed_at (suc n) (r ∷ rs) [] ks i h l d k = absurd (not-suc-le-zero d)
timed_at (suc n) (r ∷ rs) (a ∷ ds) [] i h l d k = absurd (not-suc-le-zero k)
timed_at (suc n) (r ∷ rs) (a ∷ ds) (t ∷ ks) zero h l d k = refl
timed_at (suc n) (r ∷ rs) (a ∷ ds) (t ∷ ks) (suc i) h l d k =
    timed_at n rs ds ks i (omega arith) (omega arith) (omega arith) (omega arith)

pub timed_past : (n : ℕ) (rs : List Record) (ds ks : List ℕ) (i : ℕ)
    → n ≤ i → record_at (timed n rs ds ks) i ≡ record_at rs i
timed_past zero rs ds ks i h = refl
timed_past (suc n) [] ds ks i h = refl
timed_past (suc n) (r ∷ rs) [] ks i h = refl
timed_past (suc n) (r ∷ rs) (a ∷ ds) [] i h = refl
timed_past (suc n) (r ∷ rs) (a ∷ ds) (t ∷ ks) zero h = absurd (not-suc-le-zero h)
timed_past (suc n) (r ∷ rs) (a ∷ ds) (t ∷ ks) (suc i) h = timed_past n rs ds ks i (omega arith)

pub timed_moves : (n : ℕ) (rs : List Record) (ds ks : List ℕ) → moves_of (timed n rs ds ks) ≡ moves_of rs
timed_moves zero rs ds ks = refl
timed_moves (suc n) [] ds ks = refl
timed_moves (suc n) (r ∷ rs) [] ks = refl
timed_moves (suc n) (r ∷ rs) (d ∷ ds) [] = refl
timed_moves (suc n) (r ∷ rs) (d ∷ ds) (k ∷ ks) =
    ap (λ (t : List ℕ). r.start ∷ r.goal ∷ t) (timed_moves n rs ds ks)

-- only the first n distances and ticks count
pub timed_same : (n : ℕ) (rs : List Record) (ds ks ds' ks' : List ℕ)
    → n ≤ length ds → n ≤ length ks → n ≤ length ds' → n ≤ length ks'
    → ((i : ℕ) → i < n → get_or ds i 0 ≡ get_or ds' i 0) → ((i : ℕ) → i < n → get_or ks i 0 ≡ get_or ks' i 0)
    → timed n rs ds ks ≡ timed n rs ds' ks'
timed_same zero rs ds ks ds' ks' d k d' k' e f = refl
timed_same (suc n) [] ds ks ds' ks' d k d' k' e f = refl
timed_same (suc n) (r ∷ rs) [] ks ds' ks' d k d' k' e f = absurd (not-suc-le-zero d)
timed_same (suc n) (r ∷ rs) (a ∷ ds) [] ds' ks' d k d' k' e f = absurd (not-suc-le-zero k)
timed_same (suc n) (r ∷ rs) (a ∷ ds) (t ∷ ks) [] ks' d k d' k' e f = absurd (not-suc-le-zero d')
timed_same (suc n) (r ∷ rs) (a ∷ ds) (t ∷ ks) (a' ∷ ds') [] d k d' k' e f = absurd (not-suc-le-zero k')
timed_same (suc n) (r ∷ rs) (a ∷ ds) (t ∷ ks) (a' ∷ ds') (t' ∷ ks') d k d' k' e f =
    let first : with_times r a t ≡ with_times r a' t' = rw (e 0 (omega arith), f 0 (omega arith)) in
    let rest : timed n rs ds ks ≡ timed n rs ds' ks' =
    timed_same n rs ds ks ds' ks' (omega arith) (omega arith) (omega arith) (omega arith)
    (λ i l. e (suc i) (omega arith)) (λ i l. f (suc i) (omega arith))
    in
    rw (first, rest)

-- ---- placed

pub placed_at : (n : ℕ) (rs : List Record) (ms : List ℕ) (i : ℕ)
    → i < n → i < length rs → 2 * i + 1 < length ms
    → record_at (placed n rs ms) i ≡ fresh (get_or ms (2 * i) 0) (get_or ms (2 * i + 1) 0)
placed_at zero rs ms i h l m = absurd (not-suc-le-zero h)
placed_at (suc n) [] ms i h l m = absurd (not-suc-le-zero l)
placed_at (suc n) (r ∷ rs) [] i h l m = absurd (not-suc-le-zero m)
placed_at (suc n) (r ∷ rs) (s ∷ []) i h l m = absurd (let x : ⊥ = omega arith in x)
placed_at (suc n) (r ∷ rs) (s ∷ g ∷ ms) zero h l m = refl
placed_at (suc n) (r ∷ rs) (s ∷ g ∷ ms) (suc i) h l m =
    rw (three_more i, two_more i) (placed_at n rs ms i (omega arith) (omega arith) (omega arith))

pub placed_past : (n : ℕ) (rs : List Record) (ms : List ℕ) (i : ℕ)
    → n ≤ i → record_at (placed n rs ms) i ≡ record_at rs i
placed_past zero rs ms i h = refl
placed_past (suc n) [] ms i h = refl
placed_past (suc n) (r ∷ rs) [] i h = refl
placed_past (suc n) (r ∷ rs) (s ∷ []) i h = refl
placed_past (suc n) (r ∷ rs) (s ∷ g ∷ ms) zero h = absurd (not-suc-le-zero h)
placed_past (suc n) (r ∷ rs) (s ∷ g ∷ ms) (suc i) h = placed_past n rs ms i (omega arith)

pub placed_moves : (n : ℕ) (rs : List Record) (ms : List ℕ)
    → n ≤ length rs → 2 * n ≤ length ms
    → moves_of (placed n rs ms) ≡ take (2 * n) ms ++ drop (2 * n) (moves_of rs)
placed_moves zero rs ms l m = refl
placed_moves (suc n) [] ms l m = absurd (not-suc-le-zero l)
placed_moves (suc n) (r ∷ rs) [] l m = absurd (let x : ⊥ = omega (arith, two_more n) in x)
placed_moves (suc n) (r ∷ rs) (s ∷ []) l m = absurd (let x : ⊥ = omega (arith, two_more n) in x)
placed_moves (suc n) (r ∷ rs) (s ∷ g ∷ ms) l m =
    rw (two_more n)
    (ap (λ (t : List ℕ). s ∷ g ∷ t) (placed_moves n rs ms (omega arith) (omega (arith, two_more n))))

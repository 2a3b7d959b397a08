-- The lists that the loops over records go through, as functions of how many records are done. `timed` and
-- `placed` are such functions themselves; `load_to` stops `moved` after i records. Each list has the length
-- that it began with, one more turn is one more store (two, of a move), and after as many turns as `min`
-- allows the list is the whole one: by induction over the lists, side by side. Assumes nothing.
--     load_to i                                   the moves once i records are loaded
--     load_length, timed_length, placed_length   no list changes its length
--     load_step, timed_step, placed_step         one more record
--     load_all, timed_all, placed_all            all that there are
use mathlib.Core.Path.{◌≡◌, refl, ap}
use Prim.Native.Nat.{ℕ, zero, suc, ◌+◌, ◌*◌, ◌/◌, ◌<◌, min}
use native.Mathlib.Nat.{not-suc-le-zero, zero-min, min-zero, suc-min-suc}
use native.Mathlib.Omega.{arith}
use mathlib.Core.List.{List, [], ◌∷◌}
use lib.ListN.{length, get_or, set}
use Rattle.records.specs.declared.Record.{Record}
use Rattle.records.specs.Table.{record_at, with_times, fresh, moved, timed, placed}

-- ---- two numbers for each record

pub two_more : (i : ℕ) → 2 * suc i ≡ suc (suc (2 * i))
two_more i = omega arith

pub three_more : (i : ℕ) → 2 * suc i + 1 ≡ suc (suc (2 * i + 1))
three_more i = omega arith

half_more : (n : ℕ) → suc (suc n) / 2 ≡ suc (n / 2)
half_more n = omega arith

-- ---- moves that are loaded

abbrev pub load_to : ℕ → List Record → List ℕ → List ℕ
load_to zero rs ms = ms
load_to (suc i) [] ms = ms
load_to (suc i) (r ∷ rs) [] = []
load_to (suc i) (r ∷ rs) (a ∷ []) = a ∷ []
load_to (suc i) (r ∷ rs) (a ∷ b ∷ ms) = r.start ∷ r.goal ∷ load_to i rs ms

pub load_length : (i : ℕ) (rs : List Record) (ms : List ℕ) → length (load_to i rs ms) ≡ length ms
load_length zero rs ms = refl
load_length (suc i) [] ms = refl
load_length (suc i) (r ∷ rs) [] = refl
load_length (suc i) (r ∷ rs) (a ∷ []) = refl
load_length (suc i) (r ∷ rs) (a ∷ b ∷ ms) = ap (λ (n : ℕ). suc (suc n)) (load_length i rs ms)

pub load_step : (i : ℕ) (rs : List Record) (ms : List ℕ) → i < length rs → 2 * i + 1 < length ms
    → set (set (load_to i rs ms) (2 * i) (record_at rs i).start) (2 * i + 1) (record_at rs i).goal
    ≡ load_to (suc i) rs ms
load_step i [] ms l m = absurd (not-suc-le-zero l)
load_step i (r ∷ rs) [] l m = absurd (not-suc-le-zero m)
load_step i (r ∷ rs) (a ∷ []) l m = absurd (let x : ⊥ = omega arith in x)
load_step zero (r ∷ rs) (a ∷ b ∷ ms) l m = refl
load_step (suc i) (r ∷ rs) (a ∷ b ∷ ms) l m =
    rw (three_more i, two_more i)
    (ap (λ (t : List ℕ). r.start ∷ r.goal ∷ t) (load_step i rs ms (omega arith) (omega arith)))

pub load_all : (rs : List Record) (ms : List ℕ) → load_to (min (length rs) (length ms / 2)) rs ms ≡ moved rs ms
load_all [] ms = rw zero-min
load_all (r ∷ rs) [] = rw min-zero
load_all (r ∷ rs) (a ∷ []) = rw min-zero
load_all (r ∷ rs) (a ∷ b ∷ ms) =
    rw (half_more (length ms), suc-min-suc) (ap (λ (t : List ℕ). r.start ∷ r.goal ∷ t) (load_all rs ms))

-- ---- times that are stored

pub timed_length : (n : ℕ) (rs : List Record) (ds ks : List ℕ) → length (timed n rs ds ks) ≡ length rs
timed_length zero rs ds ks = refl
timed_length (suc n) [] ds ks = refl
timed_length (suc n) (r ∷ rs) [] ks = refl
timed_length (suc n) (r ∷ rs) (d ∷ ds) [] = refl
timed_length (suc n) (r ∷ rs) (d ∷ ds) (k ∷ ks) = ap suc (timed_length n rs ds ks)

pub timed_step : (i : ℕ) (rs : List Record) (ds ks : List ℕ) → i < length rs → i < length ds → i < length ks
    → set (timed i rs ds ks) i (with_times (record_at (timed i rs ds ks) i) (get_or ds i 0) (get_or ks i 0))
    ≡ timed (suc i) rs ds ks
timed_step i [] ds ks l m n = absurd (not-suc-le-zero l)
timed_step i (r ∷ rs) [] ks l m n = absurd (not-suc-le-zero m)
timed_step i (r ∷ rs) (d ∷ ds) [] l m n = absurd (not-suc-le-zero n)
timed_step zero (r ∷ rs) (d ∷ ds) (k ∷ ks) l m n = refl
timed_step (suc i) (r ∷ rs) (d ∷ ds) (k ∷ ks) l m n =
    ap (λ (t : List Record). with_times r d k ∷ t)
    (timed_step i rs ds ks (omega arith) (omega arith) (omega arith))

pub timed_all : (n : ℕ) (rs : List Record) (ds ks : List ℕ)
    → timed (min n (min (length rs) (min (length ds) (length ks)))) rs ds ks ≡ timed n rs ds ks
timed_all zero rs ds ks = rw zero-min
timed_all (suc n) [] ds ks = rw (zero-min, min-zero)
timed_all (suc n) (r ∷ rs) [] ks = rw (zero-min, min-zero, min-zero)
timed_all (suc n) (r ∷ rs) (d ∷ ds) [] = rw (min-zero, min-zero, min-zero)
timed_all (suc n) (r ∷ rs) (d ∷ ds) (k ∷ ks) =
    rw (suc-min-suc (length ds), suc-min-suc (length rs), suc-min-suc n)
    (ap (λ (t : List Record). with_times r d k ∷ t) (timed_all n rs ds ks))

-- ---- moves that are stored

pub placed_length : (n : ℕ) (rs : List Record) (ms : List ℕ) → length (placed n rs ms) ≡ length rs
placed_length zero rs ms = refl
placed_length (suc n) [] ms = refl
placed_length (suc n) (r ∷ rs) [] = refl
placed_length (suc n) (r ∷ rs) (s ∷ []) = refl
placed_length (suc n) (r ∷ rs) (s ∷ g ∷ ms) = ap suc (placed_length n rs ms)

pub placed_step : (i : ℕ) (rs : List Record) (ms : List ℕ) → i < length rs → 2 * i + 1 < length ms
    → set (placed i rs ms) i (fresh (get_or ms (2 * i) 0) (get_or ms (2 * i + 1) 0)) ≡ placed (suc i) rs ms
placed_step i [] ms l m = absurd (not-suc-le-zero l)
placed_step i (r ∷ rs) [] l m = absurd (not-suc-le-zero m)
placed_step i (r ∷ rs) (s ∷ []) l m = absurd (let x : ⊥ = omega arith in x)
placed_step zero (r ∷ rs) (s ∷ g ∷ ms) l m = refl
placed_step (suc i) (r ∷ rs) (s ∷ g ∷ ms) l m =
    rw (three_more i, two_more i)
    (ap (λ (t : List Record). fresh s g ∷ t) (placed_step i rs ms (omega arith) (omega arith)))

pub placed_all : (n : ℕ) (rs : List Record) (ms : List ℕ)
    → placed (min n (min (length rs) (length ms / 2))) rs ms ≡ placed n rs ms
placed_all zero rs ms = rw zero-min
placed_all (suc n) [] ms = rw (zero-min, min-zero)
placed_all (suc n) (r ∷ rs) [] = rw (min-zero, min-zero)
placed_all (suc n) (r ∷ rs) (s ∷ []) = rw (min-zero, min-zero)
placed_all (suc n) (r ∷ rs) (s ∷ g ∷ ms) =
    rw (half_more (length ms), suc-min-suc (length rs), suc-min-suc n)
    (ap (λ (t : List Record). fresh s g ∷ t) (placed_all n rs ms))

-- Laws of the records that are made from numbers and written back. The 80 records are one list: it has 80,
-- and each is that of its numbers. To write the records from carrier i on is to write carrier i's and then
-- those from the next on. Assumes nothing.
--     made_length, made_at, made_all   the list of records that is made: its length, each of its records, and
--                                      that it is the only such list
--     told_step, told_end              one record more is written; none is left
--     told_length                      the numbers are as many as they were
use mathlib.Core.Path.{◌≡◌, refl, sym, ap, ◌∙◌}
use mathlib.Core.List.{List, [], ◌∷◌}
use Prim.Native.Nat.{ℕ, zero, suc, ◌+◌, ◌*◌, ◌≤◌, ◌<◌}
use native.Mathlib.Nat.{not-suc-le-zero, zero-add}
use native.Mathlib.Omega.{arith}
use lib.ListN.{length, set, drop, length-set, drop_of_length-le}
use lib.Seq.{drop-cons, ext_get_or}
use Rattle.records.specs.declared.Record.{Record}
use Rattle.records.specs.Table.{blank, record_at}
use Rattle.try_columns.specs.Columns.{lendable, record_from, records_from, made_of, tell_to, told_from}

-- ---- made

from_length : (fields : List ℕ) (n i : ℕ) → length (records_from fields n i) ≡ n
from_length fields zero i = refl
from_length fields (suc n) i = ap suc (from_length fields n (suc i))

from_at : (fields : List ℕ) (n i k : ℕ) → k < n
    → record_at (records_from fields n i) k ≡ record_from fields (i + k)
from_at fields zero i k h = absurd (not-suc-le-zero h)
from_at fields (suc n) i zero h = ap (record_from fields) (omega arith)
from_at fields (suc n) i (suc k) h =
    from_at fields n (suc i) k (omega arith)
    ∙ ap (record_from fields) (let e : suc i + k ≡ i + suc k = omega arith in e)

pub made_length : (fields : List ℕ) → length (made_of fields) ≡ lendable
unfolding made_of
made_length fields = from_length fields lendable 0

pub made_at : (fields : List ℕ) (i : ℕ) → i < lendable → record_at (made_of fields) i ≡ record_from fields i
unfolding made_of
made_at fields i h = from_at fields lendable 0 i h ∙ ap (record_from fields) (zero-add i)

pub made_all : (fields : List ℕ) (records : List Record) → length records ≡ lendable
    → ((i : ℕ) → i < lendable → record_at records i ≡ record_from fields i) → records ≡ made_of fields
made_all fields records long each =
    ext_get_or blank records (made_of fields) (long ∙ sym (made_length fields))
    (λ i h. let below : i < lendable = omega (arith, long) in each i below ∙ sym (made_at fields i below))

-- ---- told

pub told_step : (records : List Record) (i : ℕ) (f : List ℕ) → i < length records
    → told_from i (drop i records) f
    ≡ told_from (suc i) (drop (suc i) records) (tell_to (record_at records i) i f)
told_step records i f h = ap (λ (rs : List Record). told_from i rs f) (drop-cons records i blank h)

pub told_end : (records : List Record) (i : ℕ) (f : List ℕ) → length records ≤ i
    → told_from i (drop i records) f ≡ f
told_end records i f h = ap (λ (rs : List Record). told_from i rs f) (drop_of_length-le records h)

-- no list changes its length
tell_length : (r : Record) (i : ℕ) (f : List ℕ) → length (tell_to r i f) ≡ length f
unfolding tell_to
tell_length r i f =
    let g = set f i r.start in
    let h = set g (i + lendable) r.goal in
    let k = set h (i + 2 * lendable) r.distance in
    length-set k (i + 3 * lendable) r.tick ∙ length-set h (i + 2 * lendable) r.distance
    ∙ length-set g (i + lendable) r.goal ∙ length-set f i r.start

pub told_length : (i : ℕ) (rs : List Record) (f : List ℕ) → length (told_from i rs f) ≡ length f
told_length i [] f = refl
told_length i (r ∷ rs) f = told_length (suc i) rs (tell_to r i f) ∙ tell_length r i f

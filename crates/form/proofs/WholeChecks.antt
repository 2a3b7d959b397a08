-- The checks of a section's entries, asked of all its numbers at once. While a text is read, entry k is
-- checked behind the entries before it; a job from numbers is checked with the whole list in hand. A check
-- that looks only at the numbers up to its entry's own says the same in both (`Steady`). Assumes nothing.
--     Agree            two lists have the same numbers in the first places
--     SameAt           two stages have the same checks at a place: there they are clear, and refuse, alike
--     Steady           the checks of a section look only at the numbers up to their entry's own
--     Rows             each entry has so many numbers, of one to four digits
--     line_none, none_line      the checks of the last line of entries, behind the entries before it
--     each_whole, whole_each    all entries pass in turn exactly if each passes with the whole list in hand
use mathlib.Core.Path.{◌≡◌, refl, sym, ◌∙◌, ap}
use mathlib.Core.Logic.{◌↔◌}
use mathlib.Core.List.{List, [], ◌∷◌, ◌++◌, append_assoc}
use Prim.Native.Nat.{ℕ, suc, ◌+◌, ◌*◌, ◌≤◌, ◌<◌}
use native.Mathlib.Nat.{mul-suc}
use native.Mathlib.Decide.{ℕ_discrete}
use native.Mathlib.Omega.{arith}
use lib.ListN.{length, length-append, get_or, get_or-append}
use Rattle.hall.specs.Stages.{Stage, here, later, ClearAt, FirstAt, at_each}
use Rattle.form.specs.Lines.{Small}
use Rattle.form.specs.Sections.{Section, Content, numbers_in}
use Rattle.form.specs.Entries.{checks_of}
use Rattle.form.specs.Contents.{LinePasses, EachPasses}

abbrev pub Agree : ℕ → List ℕ → List ℕ → Type 0
Agree n l m = (i : ℕ) → i < n → get_or l i 0 ≡ get_or m i 0

-- two stages have the same checks at place k
abbrev pub SameAt : Stage → Stage → (k : ℕ) → Type 0
SameAt [] [] k = Unit
SameAt [] (d ∷ t) k = ⊥
SameAt (c ∷ s) [] k = ⊥
SameAt (c ∷ s) (d ∷ t) k = (c.number ≡ d.number) × (c.At k ↔ d.At k) × SameAt s t k

pub same_clear : (s t : Stage) (k : ℕ) → SameAt s t k → ClearAt s k → ClearAt t k
same_clear [] [] k e h = tt
same_clear [] (d ∷ t) k e h = absurd e
same_clear (c ∷ s) [] k e h = absurd e
same_clear (c ∷ s) (d ∷ t) k e h = (λ x. h.0 (e.1.1 x), same_clear s t k e.2 h.1)

pub same_first : (s t : Stage) (f k : ℕ) → SameAt s t k → FirstAt s f k → FirstAt t f k
same_first [] [] f k e h = h
same_first [] (d ∷ t) f k e h = absurd e
same_first (c ∷ s) [] f k e h = absurd e
same_first (c ∷ s) (d ∷ t) f k e (here h) = here (h.0 ∙ e.0, e.1.0 h.1)
same_first (c ∷ s) (d ∷ t) f k e (later n h) = later (λ x. n (e.1.1 x)) (same_first s t f k e.2 h)

-- a stage asked at each of so many places, at one of them
pub each_same : (s : Stage) (n k : ℕ) → k < n → SameAt (at_each n s) s k
each_same [] n k h = tt
each_same (c ∷ s) n k h = (refl, (λ x. x.1, λ x. (h, x)), each_same s n k h)

abbrev pub Steady : Section → Type 0
Steady s =
    (read : List Content) (l m : List ℕ) (k : ℕ) → Agree (s.size * suc k) l m
    → SameAt (checks_of s.entry read l) (checks_of s.entry read m) k

abbrev pub Rows : (size : ℕ) → List (List ℕ) → Type 0
Rows size [] = Unit
Rows size (e ∷ es) = (length e ≡ size) × Small e × Rows size es

-- the checks of entry k are the same in lists that agree up to its end
module _ (s : Section) (steady : Steady s) (read : List Content) (l m : List ℕ) (k : ℕ)
    (a : Agree (s.size * suc k) l m) where
  pub steady_clear : ClearAt (checks_of s.entry read l) k → ClearAt (checks_of s.entry read m) k
  steady_clear = same_clear (checks_of s.entry read l) (checks_of s.entry read m) k (steady read l m k a)

  pub steady_first : (f : ℕ) → FirstAt (checks_of s.entry read l) f k
      → FirstAt (checks_of s.entry read m) f k
  steady_first f =
      same_first (checks_of s.entry read l) (checks_of s.entry read m) f k (steady read l m k a)

pub numbers_append : (a b : List (List ℕ)) → numbers_in (a ++ b) ≡ numbers_in a ++ numbers_in b
unfolding numbers_in
numbers_append [] b = refl
numbers_append (e ∷ a) b = rw (numbers_append a b) (sym (append_assoc e (numbers_in a) (numbers_in b)))

pub numbers_length : (size : ℕ) (es : List (List ℕ)) → Rows size es → length (numbers_in es) ≡ size * length es
unfolding numbers_in
numbers_length size [] h = omega arith
numbers_length size (e ∷ es) h =
    omega (
      arith,
      length-append e (numbers_in es),
      numbers_length size es h.2,
      h.0,
      mul-suc size
          (length es),
    )

module _ (read : List Content) (s : Section) (n : ℕ) where
  -- no check holds of entry k of a list of numbers
  abbrev pub NoneAt : List ℕ → ℕ → Type 0
  NoneAt l k = ClearAt (checks_of s.entry read l) k

  pub line_none : (before : List (List ℕ)) (e : List ℕ) → LinePasses read s n (before ++ (e ∷ []))
      → NoneAt (numbers_in (before ++ (e ∷ []))) (length before)
  line_none [] e h = h
  line_none (b ∷ before) e h =
      let l : length (before ++ (e ∷ [])) ≡ length (b ∷ before) =
      omega (arith, length-append before (e ∷ [])) in rw l at h

  pub none_line : (before : List (List ℕ)) (e : List ℕ)
      → NoneAt (numbers_in (before ++ (e ∷ []))) (length before) → LinePasses read s n (before ++ (e ∷ []))
  none_line [] e h = h
  none_line (b ∷ before) e h =
      let l : length (before ++ (e ∷ [])) ≡ length (b ∷ before) =
      omega (arith, length-append before (e ∷ [])) in rw l h

  module _ (steady : Steady s) where
    agree_front : (a b : List ℕ) → Agree (length a) a (a ++ b)
    agree_front a b i h = sym (get_or-append a b 0 i h)

    rows_append : (a b : List (List ℕ)) → Rows s.size a → Rows s.size b → Rows s.size (a ++ b)
    rows_append [] b h k = k
    rows_append (e ∷ a) b h k = (h.0, h.1, rows_append a b h.2 k)

    -- the numbers up to entry k are those of the whole list
    shared : (before es : List (List ℕ)) (e : List ℕ) → Rows s.size before → length e ≡ s.size → Small e
        → Agree (s.size * suc (length before)) (numbers_in (before ++ (e ∷ [])))
        (numbers_in (before ++ (e ∷ es)))
    shared before es e rows l small =
        let long = numbers_length s.size (before ++ (e ∷ []))
        (rows_append before (e ∷ []) rows (l, small, tt)) in
        let one : length (before ++ (e ∷ [])) ≡ suc (length before) =
        omega (arith, length-append before (e ∷ [])) in
        let whole : numbers_in (before ++ (e ∷ es)) ≡ numbers_in (before ++ (e ∷ [])) ++ numbers_in es =
        ap numbers_in (sym (append_assoc before (e ∷ []) es)) ∙ numbers_append (before ++ (e ∷ [])) es in
        let front = agree_front (numbers_in (before ++ (e ∷ []))) (numbers_in es) in
        let fits : length (numbers_in (before ++ (e ∷ []))) ≡ s.size * suc (length before) =
        long ∙ ap (λ (m : ℕ). s.size * m) one in
        rw (whole, ← fits) front

    pub each_whole : (before es : List (List ℕ)) → Rows s.size before → EachPasses read s n before es
        → Rows s.size es ×
        ((k : ℕ) → length before ≤ k → k < length before + length es → NoneAt (numbers_in (before ++ es)) k)
    each_whole before [] rows p = (tt, λ k a b. absurd (let x : ⊥ = omega arith in x))
    each_whole before (e ∷ es) rows p =
        let more = each_whole (before ++ (e ∷ [])) es (rows_append before (e ∷ []) rows (p.0, p.1, tt))
        p.3 in
        ((p.0, p.1, more.0), λ k a b. cases k a b (ℕ_discrete k (length before)) (more.1 k))
      where
        one : length (before ++ (e ∷ [])) ≡ suc (length before)
        one = omega (arith, length-append before (e ∷ []))

        cases : (k : ℕ) → length before ≤ k → k < length before + length (e ∷ es) → Dec (k ≡ length before)
            → (length (before ++ (e ∷ [])) ≤ k → k < length (before ++ (e ∷ [])) + length es
            → NoneAt (numbers_in ((before ++ (e ∷ [])) ++ es)) k)
            → NoneAt (numbers_in (before ++ (e ∷ es))) k
        cases k a b (yes q) on =
            rw q (steady_clear s steady read (numbers_in (before ++ (e ∷ [])))
            (numbers_in (before ++ (e ∷ es))) (length before)
            (shared before es e rows p.0 p.1) (line_none before e p.2))
        cases k a b (no q) on = rw append_assoc at (on (omega (arith, one)) (omega (arith, one)))

    pub whole_each : (before es : List (List ℕ)) → Rows s.size before → Rows s.size es
        → ((k : ℕ) → length before ≤ k → k < length before + length es → NoneAt (numbers_in (before ++ es)) k)
        → EachPasses read s n before es
    whole_each before [] rows more h = tt
    whole_each before (e ∷ es) rows more h =
        let one : length (before ++ (e ∷ [])) ≡ suc (length before) =
        omega (arith, length-append before (e ∷ [])) in
        let here = steady_clear s steady read (numbers_in (before ++ (e ∷ es)))
        (numbers_in (before ++ (e ∷ []))) (length before)
        (λ i b. sym (shared before es e rows more.0 more.1 i b))
        (h (length before) (omega arith) (omega arith)) in (
          more.0,
          more.1,
          none_line before e here,
          whole_each (before ++ (e ∷ [])) es (rows_append before (e ∷ []) rows (more.0, more.1, tt))
              more.2
              (λ k a b. rw append_assoc (h k (omega arith) (omega arith))),
        )

-- What the next line is at a stand is decided: whether there is a line of the expected form, and whether it
-- passes its checks. The sections that may come next are tried in their order. Assumes nothing.
--     Formed      a text begins with a line of the form that is expected at a stand
--     form?       whether it does
--     judged      the line before a stand passes its checks, or it has a first fault
--     ends?       whether a text may end at a stand
use mathlib.Core.Path.{◌≡◌, refl}
use mathlib.Core.Logic.{◌⊎◌, inl, inr}
use mathlib.Core.List.{List, [], ◌∷◌, ◌++◌, cons≢nil}
use mathlib.Core.Bool.{Bool, true, false}
use Prim.Native.Nat.{ℕ, zero, suc, ◌<◌}
use native.Mathlib.Decide.{dec_lt, dec_le, ℕ_discrete}
use native.Mathlib.Omega.{arith}
use lib.ListN.{length}
use Rattle.hall.specs.declared.Fault.TheVariants.{BadCount}
use Rattle.hall.specs.Numbers.{number_of}
use Rattle.hall.specs.Stages.{ClearAt, FirstAt}
use Rattle.hall.proofs.Lowest.{dec_and}
use Rattle.hall.proofs.Stages.{SettledAt, faulty, clean, settled_at}
use Rattle.form.specs.Lines.{count_line, entry_line, Counted, Entered}
use Rattle.form.specs.Sections.{Section, Form, Content, Limits, between, like, count_of, CountFits, due}
use Rattle.form.specs.Sections.{due_by, numbers_in}
use Rattle.form.specs.Entries.{checks_of}
use Rattle.form.specs.Contents.{Picks, first, past, MayLack}
use Rattle.form.specs.Stands.{Stand, start, within, contents, behind, Whole, NextLine, count, entry, PassesAt}
use Rattle.form.specs.Stands.{Faulty, Ends}
use Rattle.form.proofs.LineTests.{entry?, count?}
use Rattle.form.proofs.Checks.{decides}

true? : (b : Bool) → Dec (b ≡ true)
true? true = yes refl
true? false = no (λ e. let z : ◌≡◌ {A = ℕ} 0 1 = cc in let x : ⊥ = omega arith in x)

-- ---- the form of the next line

pub record Picked (more : Form) (t : List ℕ) : Type 0 where
  pub s : Section
  pub left : Form
  pub picks : Picks more s left
  pub counted : Counted s.word t

picks_some : {more left : Form} {s : Section} → Picks more s left → ¬ (more ≡ [])
picks_some (first s left) = cons≢nil
picks_some (past o s more left h p) = cons≢nil

pub picked? : (more : Form) (t : List ℕ) → Dec (Picked more t)
picked? [] t = no (λ x. picks_some x.picks refl)
picked? (o ∷ more) t = cases (count? o.word t) (dec_and (true? o.optional) (picked? more t))
  where
    which_one : {s : Section} {left : Form} → Picks (o ∷ more) s left → Counted s.word t
        → Counted o.word t ⊎ ((o.optional ≡ true) × Picked more t)
    which_one (first s left) c = inl c
    which_one (past _ s _ left h p) c = inr (h, record { s = s; left = left; picks = p; counted = c })

    cases : Dec (Counted o.word t) → Dec ((o.optional ≡ true) × Picked more t) → Dec (Picked (o ∷ more) t)
    cases (yes c) d = yes (record { s = o; left = more; picks = first o more; counted = c })
    cases (no c) (yes d) =
        let p = d.1 in
        yes (record {
          s = p.s;
          left = p.left;
          picks = past o p.s more p.left d.0 p.picks;
          counted = p.counted;
        })
    cases (no c) (no d) = no λ x. elim (which_one x.picks x.counted) [ inl h ↦ c h | inr h ↦ d h ]

abbrev pub EntryNext : Stand → List ℕ → Type 0
EntryNext start t = ⊥
EntryNext (within read s n es left) t = (length es < due s n) × Entered s.size t

abbrev pub CountNext : Form → Stand → List ℕ → Type 0
CountNext F st t = Whole st × Picked (behind F st) t

whole? : (st : Stand) → Dec (Whole st)
whole? start = yes tt
whole? (within read s n es left) = ℕ_discrete (length es) (due s n)

-- a section with lines has numbers in each
entered? : (size n k : ℕ) (t : List ℕ) → Dec ((k < due_by size n) × Entered size t)
entered? zero n k t = no (λ h. let l = h.0 in let x : ⊥ = omega arith in x)
entered? (suc size) n k t = dec_and (dec_lt k n) (entry? size t)

entry-next? : (st : Stand) (t : List ℕ) → Dec (EntryNext st t)
entry-next? start t = no (λ h. h)
entry-next? (within read s n es left) t = entered? s.size n (length es) t

module _ (F : Form) where
  pub record Formed (st : Stand) (t : List ℕ) : Type 0 where
    pub line : List ℕ
    pub to : Stand
    pub rest : List ℕ
    pub next : NextLine F st line to
    pub begins : t ≡ line ++ rest

  count_formed : (st : Stand) (t : List ℕ) → CountNext F st t → Formed st t
  count_formed st t (w, p) =
      let c = p.counted in
      record {
        line = count_line p.s.word c.n;
        to = within (contents st) p.s c.n [] p.left;
        rest = c.rest;
        next = count st p.s c.n p.left w p.picks c.small;
        begins = c.begins;
      }

  entry_formed : (st : Stand) (t : List ℕ) → EntryNext st t → Formed st t
  entry_formed start t h = absurd h
  entry_formed (within read s n es left) t (l, x) =
      record {
        line = entry_line x.e;
        to = within read s n (es ++ (x.e ∷ [])) left;
        rest = x.rest;
        next = entry read s n es left x.e l x.sized x.small;
        begins = x.begins;
      }

  pub which : {st to : Stand} {line : List ℕ} (t rest : List ℕ) → NextLine F st line to → t ≡ line ++ rest
      → CountNext F st t ⊎ EntryNext st t
  which t rest (count st s n left w p h) e =
      inl (
        w,
        record {
          s = s;
          left = left;
          picks = p;
          counted =
              record { n = n; rest = rest; small = h; begins = e };
        },
      )
  which t rest (entry read s n es left e l sized small) b =
      inr (l, record { e = e; rest = rest; sized = sized; small = small; begins = b })

  pub form? : (st : Stand) (t : List ℕ) → Dec (Formed st t)
  form? st t = cases (dec_and (whole? st) (picked? (behind F st) t)) (entry-next? st t)
    where
      cases : Dec (CountNext F st t) → Dec (EntryNext st t) → Dec (Formed st t)
      cases (yes c) d = yes (count_formed st t c)
      cases (no c) (yes d) = yes (entry_formed st t d)
      cases (no c) (no d) =
          no λ x. elim (which t x.rest x.next x.begins) [ inl h ↦ c h | inr h ↦ d h ]

  -- ---- the end

  may-lack? : (left : Form) → Dec (MayLack left)
  may-lack? [] = yes tt
  may-lack? (s ∷ left) = dec_and (true? s.optional) (may-lack? left)

  pub ends? : (st : Stand) → Dec (Ends F st)
  ends? st = dec_and (whole? st) (may-lack? (behind F st))

-- ---- the checks

fits? : (l : Limits) (read : List Content) (n : ℕ) → Dec (CountFits l read n)
fits? (between least most) read n = dec_and (dec_le least n) (dec_le n most)
fits? (like word most) read n = dec_and (ℕ_discrete n (count_of word read)) (dec_le n most)

pub judged : (to : Stand) → PassesAt to ⊎ ((f : ℕ) × Faulty to f)
judged start = inl tt
judged (within read s n [] left) = cases (fits? s.limits read n)
  where
    cases : Dec (CountFits s.limits read n)
        → CountFits s.limits read n
        ⊎ ((f : ℕ) × ((f ≡ number_of BadCount) × ¬ CountFits s.limits read n))
    cases (yes h) = inl h
    cases (no h) = inr (number_of BadCount, (refl, h))
judged (within read s n (e ∷ es) left) =
    cases (settled_at (checks_of s.entry read l) (length es) (decides s.entry read l (length es)))
  where
    l : List ℕ
    l = numbers_in (e ∷ es)

    cases : SettledAt (checks_of s.entry read l) (length es)
        → ClearAt (checks_of s.entry read l) (length es)
        ⊎ ((f : ℕ) × FirstAt (checks_of s.entry read l) f (length es))
    cases (clean h) = inl h
    cases (faulty f h) = inr (f, h)

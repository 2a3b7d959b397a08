-- Contents without a fault, section by section, are the contents of a stand that fine lines lead to and where
-- a text may end; and the other way round. Forwards the lines are put one behind the other; backwards what
-- follows a stand is handed on to the stand before it. Assumes nothing.
--     Finished         contents are those of a stand with fine lines before it, where a text may end
--     sound_finished, finished_sound    the two directions
use mathlib.Core.Path.{◌≡◌, refl, sym, ◌∙◌, ap}
use mathlib.Core.List.{List, [], ◌∷◌, ◌++◌, append_assoc, append-nil}
use Prim.Native.Nat.{ℕ, ◌+◌}
use native.Mathlib.Omega.{arith}
use lib.ListN.{length, length-append}
use Rattle.form.specs.Lines.{entry_line, count_line}
use Rattle.form.specs.Sections.{Section, Form, Content, content, due}
use Rattle.form.specs.Contents.{Picks, EachPasses, SoundSection, Sound, over, stands}
use Rattle.form.specs.Stands.{Stand, start, within, contents, behind, Whole, count, entry}
use Rattle.form.specs.Stands.{Fine, nothing, onward, Ends}

pub record Finished (F : Form) (said : List Content) : Type 0 where
  pub stand : Stand
  pub fine : Fine F stand
  pub ends : Ends F stand
  pub says : said ≡ contents stand

module _ (F : Form) where
  -- ---- forwards

  entries_fine : (read : List Content) (s : Section) (n : ℕ) (left : Form) (before es : List (List ℕ))
      → Fine F (within read s n before left)
      → EachPasses read s n before es → length before + length es ≡ due s n
      → Fine F (within read s n (before ++ es) left)
  entries_fine read s n left before [] h p e = rw append-nil h
  entries_fine read s n left before (x ∷ es) h p e =
      let next = entry read s n before left x (omega arith) p.0 p.1 in
      let there = onward (within read s n before left) (within read s n (before ++ (x ∷ [])) left)
      (entry_line x) h next p.2 in
      let rest = entries_fine read s n left (before ++ (x ∷ [])) es there p.3
      (omega (arith, length-append before (x ∷ []))) in
      rw append_assoc at rest

  -- the lines of a stand are those that the contents so far say
  sound_on : (st : Stand) (cs : List Content) {said : List Content} {left : Form}
      → Fine F st → Whole st → contents st ≡ said → behind F st ≡ left → Sound said left cs
      → Finished F (contents st ++ cs)
  sound_on st _ h w e b (over said left m) =
      record { stand = st; fine = h; ends = (w, rw b m); says = append-nil (contents st) }
  sound_on st _ h w e b (stands said more left s n es cs p x rest) =
      let picks : Picks (behind F st) s left = rw b p in
      let sound : SoundSection (contents st) s n es = rw e x in
      let counted = onward st (within (contents st) s n [] left) (count_line s.word n) h
      (count st s n left w picks sound.small) sound.fits in
      let there = entries_fine (contents st) s n left [] es counted sound.passes (omega (arith, sound.counted)) in
      let behind_it : contents st ++ (content s.word n es ∷ []) ≡ said ++ (content s.word n es ∷ []) =
      ap (λ (r : List Content). r ++ (content s.word n es ∷ [])) e in
      let f = sound_on (within (contents st) s n es left) cs there sound.counted behind_it refl rest in
      record {
        stand = f.stand;
        fine = f.fine;
        ends = f.ends;
        says = sym (append_assoc (contents st) (content s.word n es ∷ []) cs) ∙ f.says;
      }

  pub sound_finished : (cs : List Content) → Sound [] F cs → Finished F cs
  sound_finished cs x = sound_on start cs nothing tt refl refl x

  -- ---- backwards

  -- what follows a stand, the further entries `more` of the section at hand and then `cs`, is without a fault
  abbrev Follows : Stand → List (List ℕ) → List Content → Type 0
  Follows start more cs = Sound [] F cs
  Follows (within read s n es left) more cs =
      EachPasses read s n es more × (length (es ++ more) ≡ due s n)
      × Sound (read ++ (content s.word n (es ++ more) ∷ [])) left cs

  abbrev with-more : Stand → List (List ℕ) → List Content → List Content
  with-more start more cs = cs
  with-more (within read s n es left) more cs = read ++ (content s.word n (es ++ more) ∷ cs)

  -- a whole section needs no further entries
  none_more : (st : Stand) (cs : List Content) → Whole st → Sound (contents st) (behind F st) cs
      → Follows st [] cs
  none_more start cs w x = x
  none_more (within read s n es left) cs w x = (tt, rw append-nil w, rw append-nil x)

  with_none : (st : Stand) (cs : List Content) → with-more st [] cs ≡ contents st ++ cs
  with_none start cs = refl
  with_none (within read s n es left) cs =
      rw append-nil (sym (append_assoc read (content s.word n es ∷ []) cs))

  fine_sound : {st : Stand} → Fine F st → (more : List (List ℕ)) (cs : List Content) → Follows st more cs
      → Sound [] F (with-more st more cs)
  fine_sound nothing more cs x = x
  fine_sound (onward _ _ line h (count st s n left w p small) fits) more cs x =
      let section : SoundSection (contents st) s n more =
      record { small = small; fits = fits; counted = x.1; passes = x.0 } in
      let here = stands (contents st) (behind F st) left s n more cs p section x.2 in
      rw (← with_none st (content s.word n more ∷ cs))
      (fine_sound h [] (content s.word n more ∷ cs) (none_more st _ w here))
  fine_sound (onward _ _ line h (entry read s n es left e l sized small) p) more cs x =
      rw append_assoc (fine_sound h (e ∷ more) cs (
        (sized, small, p, x.0),
        rw (← append_assoc es (e ∷ []) more) x.1,
        rw
            (← append_assoc es (e ∷ []) more) x.2,
      ))

  pub finished_sound : (st : Stand) → Fine F st → Ends F st → Sound [] F (contents st)
  finished_sound st h e =
      rw (← append-nil (contents st), ← with_none st [])
      (fine_sound h [] [] (none_more st [] e.0 (over (contents st) (behind F st) e.1)))

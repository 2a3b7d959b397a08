-- The sections of an accepted job text from the closed nodes on: those that stand are the lists of a job and
-- its dwell; where that of the closed nodes is missing nothing is closed, and where that of the dwell is, it
-- is 0. Each section is taken off the front in turn, and its entries pass the checks of the question from
-- numbers. Assumes nothing.
--     no_entries         a section of one line has no entries
--     pairs_said, singles_said    a section whose entries have two numbers says the pairs of its numbers; one
--                        whose entries have one number says them one by one
--     DwellRead          contents are those of a dwell, or of none
--     CarriersRead       contents are those of moves and an order, checked behind so many nodes and the
--                        closed ones, and of what is behind them
--     ClosedRead         contents are those of closed nodes, or of none, and of what is behind them
--     closed_read_lem        the contents of an accepted text are so, behind the nodes and the lanes
use mathlib.Core.Path.{◌≡◌, refl, sym, ◌∙◌, subst}
use mathlib.Core.Logic.{◌⊎◌, inl, inr}
use mathlib.Core.List.{List, [], ◌∷◌, ◌++◌}
use mathlib.Core.Bool.{true}
use Prim.Native.Nat.{ℕ, ◌/◌, ◌≤◌, ◌<◌}
use native.Mathlib.Omega.{arith}
use lib.ListN.{length}
use Rattle.hall.specs.Limits.{node_limit, carrier_limit, dwell_limit}
use Rattle.hall.specs.Job.{move_count}
use Rattle.hall.specs.Stages.{ClearAt}
use Rattle.hall.specs.Questions.{closed_checks, move_checks, order_checks}
use Rattle.form.specs.Sections.{Content, content, same_words, count_of, numbers_of, numbers_in}
use Rattle.form.specs.Words.{NODES, LANES, CLOSED, CARRIERS, ORDER, DWELL}
use Rattle.form.specs.Contents.{Sound}
use Rattle.form.specs.JobText.{closed_section, carriers_section, order_section, dwell_section}
use Rattle.form.specs.Jobs.{pairs, singles, closed_contents, dwell_contents}
use Rattle.form.proofs.WholeChecks.{Rows, numbers_length}
use Rattle.form.proofs.FirstSections.{StandsFirst, may, must, none_left}
use Rattle.form.proofs.Checks.{closed_steady, carriers_steady, order_steady}
use Rattle.form.proofs.Rows.{ByTwos, rows_pairs, rows_singles, section_whole}
use Rattle.form.proofs.JobSections.{dwell_stands}

pub no_entries : (es : List (List ℕ)) → length es ≡ 0 → es ≡ []
no_entries [] e = refl
no_entries (x ∷ es) e = absurd (let y : ⊥ = omega arith in y)

pub pairs_said : (word : List ℕ) (n : ℕ) (es : List (List ℕ)) → Rows 2 es → length es ≡ n
    → content word n es ≡ content word (length (numbers_in es) / 2) (pairs (numbers_in es))
pairs_said word n es rows e =
    let q = rows_pairs es rows in
    let l : length (numbers_in es) / 2 ≡ n = omega (arith, numbers_length 2 es rows) in
    rw (q, l)

singles_said : (word : List ℕ) (n : ℕ) (es : List (List ℕ)) → Rows 1 es → length es ≡ n
    → content word n es ≡ content word (length (numbers_in es)) (singles (numbers_in es))
singles_said word n es rows e =
    let q = rows_singles es rows in
    let l : length (numbers_in es) ≡ n = omega (arith, numbers_length 1 es rows) in
    rw (q, l)

-- the dwell stands, or it is 0
pub record DwellRead (cs : List Content) : Type 0 where
  pub dwell : ℕ
  pub few : dwell ≤ dwell_limit
  pub is : cs ≡ dwell_contents dwell

dwell_read : (read cs : List Content) → Sound read (dwell_section ∷ []) cs → DwellRead cs
dwell_read read cs h = cases (may h)
  where
    cases : StandsFirst read dwell_section [] cs ⊎ ((dwell_section.optional ≡ true) × Sound read [] cs)
        → DwellRead cs
    cases (inl x) =
        let fit = x.section.fits in
        let last = none_left refl x.on in
        record {
          dwell = x.n;
          few = omega (arith, fit.1);
          is = x.is ∙ (λ i. content DWELL x.n x.es ∷ last i)
              ∙ dwell_stands x.n x.es x.section.counted fit.0;
        }
    cases (inr x) = record { dwell = 0; few = omega arith; is = none_left refl x.1 }

-- from the carriers on, behind sections that say nothing of carriers
pub record CarriersRead (nodes : ℕ) (closed : List ℕ) (cs : List Content) : Type 0 where
  pub moves : List ℕ
  pub order : List ℕ
  pub paired : ByTwos moves
  pub few : move_count moves ≤ carrier_limit
  pub counts : length order ≡ move_count moves
  pub move : (i : ℕ) → i < move_count moves → ClearAt (move_checks nodes closed moves) i
  pub place : (p : ℕ) → p < length order → ClearAt (order_checks (move_count moves) order) p
  pub rest : List Content
  pub is :
      cs
      ≡ content CARRIERS (move_count moves) (pairs moves) ∷ content ORDER (length order) (singles order) ∷ rest
  pub on : DwellRead rest

carriers_read : (read cs : List Content)
    → ((c : Content) → count_of CARRIERS (read ++ (c ∷ [])) ≡ count_of CARRIERS (c ∷ []))
    → Sound read (carriers_section ∷ order_section ∷ dwell_section ∷ []) cs
    → CarriersRead (count_of NODES read) (numbers_of CLOSED read) cs
unfolding count_of same_words CARRIERS
carriers_read read cs none h =
    let a = must refl h in
    let b = must refl a.on in
    let x = section_whole read carriers_section a.n a.es carriers_steady a.section in
    let y = section_whole _ order_section b.n b.es order_steady b.section in
    let its_count = none (content CARRIERS a.n a.es) in
    let fit = a.section.fits in
    let carriers_many = a.section.counted in
    let order_many = b.section.counted in
    let same : b.n ≡ a.n = b.section.fits.0 ∙ its_count in
    let moves_long = numbers_length 2 a.es x.0 in
    let order_long = numbers_length 1 b.es y.0 in
    let k : move_count (numbers_in a.es) ≡ a.n = omega arith in
    let moves_are = pairs_said CARRIERS a.n a.es x.0 carriers_many in
    let order_is = singles_said ORDER b.n b.es y.0 order_many in
    let order_on = b.is ∙ (λ i. order_is i ∷ b.rest) in
    record {
      moves = numbers_in a.es;
      order = numbers_in b.es;
      paired = omega arith;
      few = omega (arith, fit.1);
      counts = omega arith;
      move = λ i l. x.1 i (omega arith);
      place = λ p l.
          subst (λ (q : ℕ). ClearAt (order_checks q (numbers_in b.es)) p) (its_count ∙ sym k)
          (y.1 p (omega arith));
      rest = b.rest;
      is = a.is ∙ (λ i. moves_are i ∷ order_on i);
      on = dwell_read _ b.rest b.on;
    }

-- the closed nodes are listed, or nothing is closed
pub record ClosedRead (nodes : ℕ) (cs : List Content) : Type 0 where
  pub closed : List ℕ
  pub rest : List Content
  pub few : length closed ≤ node_limit
  pub entry : (k : ℕ) → k < length closed → ClearAt (closed_checks nodes closed) k
  pub is : cs ≡ closed_contents closed ++ rest
  pub on : CarriersRead nodes closed rest

module _ (n m : ℕ) (none lanes : List (List ℕ)) where
  abbrev so_far : List Content
  so_far = content NODES n none ∷ content LANES m lanes ∷ []

  pub closed_read_lem : (cs : List Content)
      → Sound so_far (closed_section ∷ carriers_section ∷ order_section ∷ dwell_section ∷ []) cs
      → ClosedRead n cs
  unfolding count_of numbers_of same_words NODES LANES CLOSED CARRIERS
  closed_read_lem cs h = cases (may h)
    where
      some : (l : List ℕ) (rest : List Content) → 1 ≤ length l
          → content CLOSED (length l) (singles l) ∷ rest ≡ closed_contents l ++ rest
      some [] rest k = absurd (let x : ⊥ = omega arith in x)
      some (v ∷ l) rest k = refl

      cases : StandsFirst so_far closed_section (carriers_section ∷ order_section ∷ dwell_section ∷ []) cs
          ⊎ ((closed_section.optional ≡ true)
          × Sound so_far (carriers_section ∷ order_section ∷ dwell_section ∷ []) cs)
          → ClosedRead n cs
      cases (inl x) =
          let y = section_whole so_far closed_section x.n x.es closed_steady x.section in
          let long = numbers_length 1 x.es y.0 in
          let many = x.section.counted in
          let fit = x.section.fits in
          let here = singles_said CLOSED x.n x.es y.0 many in
          record {
            closed = numbers_in x.es;
            rest = x.rest;
            few = omega (arith, fit.1);
            entry = λ k l. y.1 k (omega arith);
            is = x.is ∙ (λ i. here i ∷ x.rest) ∙ some (numbers_in x.es) x.rest (omega (arith, fit.0));
            on = carriers_read _ x.rest (λ c. refl) x.on;
          }
      cases (inr x) =
          record {
            closed = [];
            rest = cs;
            few = omega arith;
            entry = λ k l. absurd (let y : ⊥ = omega arith in y);
            is = refl;
            on = carriers_read so_far cs (λ c. refl) x.1;
          }

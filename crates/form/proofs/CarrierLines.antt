-- The line of a carrier, which the sections above it give, is the one in which its start and goal are
-- written (rules 7.10 and 10.2). Its entry is the one with its number in its section, so that the lines above
-- are those of the sections before, the line of the count and an entry's for each carrier before. Assumes
-- nothing.
--     carrier_line_lem       with m lanes, carrier i stands in line 4 + m + i where nothing is closed, and as
--                        many lines further down as the closed nodes' section has (`closed_lines`) otherwise
--     none_closed, some_closed    how many it has, by the count of the closed nodes
--     carrier_written    in the text of a job that line has the carrier's start and goal
--     dwell_lines         how many lines the dwell has: one, or none where it is 0
--     job_lines          how many lines the text of a job has
use mathlib.Core.Path.{◌≡◌, refl, ◌∙◌, ap}
use mathlib.Core.List.{List, [], ◌∷◌, ◌++◌, append_assoc, append-nil}
use Prim.Native.Nat.{ℕ, zero, suc, ◌+◌, ◌*◌, ◌/◌, ◌≤◌, ◌<◌}
use native.Mathlib.Omega.{arith}
use lib.ListN.{length, get_or}
use Rattle.hall.specs.Floor.{lanes_in}
use Rattle.hall.specs.Job.{Numbers, start_in, goal_in, start, goal}
use Rattle.hall.specs.Job as job
use Rattle.form.specs.Lines.{entry_line, entry_lines, LineIs}
use Rattle.form.specs.Sections.{Content, content, same_words}
use Rattle.form.specs.Words.{NODES, LANES, CLOSED, CARRIERS, ORDER}
use Rattle.form.specs.Contents.{written, line_count}
use Rattle.form.specs.Jobs.{pairs, singles, closed_contents, dwell_contents, contents_of, WrittenJob}
use Rattle.form.specs.Jobs.{lines_above, closed_lines, line_of}
use Rattle.form.proofs.Steps.{written_append, entries_append, lines_append}
use Rattle.form.proofs.Rows.{pairs_count, singles_count}
use Rattle.form.proofs.LineNumbers.{Lined, lined_append, line_is}
use Rattle.form.proofs.JobTexts.{job_told}

-- ---- the lines of the closed nodes and of the dwell

pub none_closed : (l : List ℕ) → length l ≡ 0 → closed_lines l ≡ 0
none_closed [] e = refl
none_closed (v ∷ l) e = absurd (let x : ⊥ = omega arith in x)

pub some_closed : (l : List ℕ) → 1 ≤ length l → closed_lines l ≡ 1 + length l
some_closed [] h = absurd (let x : ⊥ = omega arith in x)
some_closed (v ∷ l) h = omega arith

closed_lines_lem : (l : List ℕ) → line_count (closed_contents l) ≡ closed_lines l
unfolding line_count
closed_lines_lem [] = refl
closed_lines_lem (v ∷ l) = omega (arith, singles_count (v ∷ l))

closed_lined : (l : List ℕ) → Lined (closed_contents l)
closed_lined [] = tt
closed_lined (v ∷ l) = (job_told.2.2.0, tt)

abbrev pub dwell_lines : ℕ → ℕ
dwell_lines zero = 0
dwell_lines (suc w) = 1

dwell_lines_lem : (w : ℕ) → line_count (dwell_contents w) ≡ dwell_lines w
unfolding line_count
dwell_lines_lem zero = refl
dwell_lines_lem (suc w) = refl

-- ---- the lines above the carriers

lines_above_lem : (n m k : ℕ) (lanes moves : List (List ℕ)) (more : List Content) (closed : List ℕ)
    → lines_above CARRIERS
    (content NODES n [] ∷ content LANES m lanes ∷ (closed_contents closed ++ (content CARRIERS k moves ∷ more)))
    ≡ 2 + length lanes + closed_lines closed
unfolding lines_above same_words NODES LANES CLOSED CARRIERS
lines_above_lem n m k lanes moves more [] = omega arith
lines_above_lem n m k lanes moves more (v ∷ l) = omega (arith, singles_count (v ∷ l))

pub carrier_line_lem : (j : Numbers) (i : ℕ)
    → line_of j i ≡ 4 + lanes_in j.network.lanes + closed_lines j.network.closed + i
carrier_line_lem j i =
    let last = content ORDER (length j.order) (singles j.order) ∷ dwell_contents j.dwell in
    omega (
      arith,
      pairs_count j.network.lanes,
      lines_above_lem j.network.nodes (lanes_in j.network.lanes) (job.carriers j)
          (pairs j.network.lanes) (pairs j.moves) last j.network.closed,
    )

pub job_lines : (j : Numbers)
    → line_count (contents_of j)
    ≡ 4 + lanes_in j.network.lanes + closed_lines j.network.closed + job.carriers j + length j.order
    + dwell_lines j.dwell
unfolding line_count
job_lines j =
    let behind =
    content CARRIERS (job.carriers j) (pairs j.moves)
    ∷ content ORDER (length j.order) (singles j.order)
    ∷ dwell_contents j.dwell in
    omega (
      arith,
      pairs_count j.network.lanes,
      pairs_count j.moves,
      singles_count j.order,
      lines_append (closed_contents j.network.closed) behind,
      closed_lines_lem j.network.closed,
      dwell_lines_lem j.dwell,
    )

-- ---- one entry of many

-- the pair with number i, with those before it and those behind
pub record PairAt (l : List ℕ) (i : ℕ) : Type 0 where
  pub before : List (List ℕ)
  pub after : List (List ℕ)
  pub is : pairs l ≡ before ++ ((start_in l i ∷ goal_in l i ∷ []) ∷ after)
  pub counted : length before ≡ i

pair_at : (l : List ℕ) (i : ℕ) → i < length l / 2 → PairAt l i
unfolding pairs
pair_at [] i h = absurd (let x : ⊥ = omega arith in x)
pair_at (a ∷ []) i h = absurd (let x : ⊥ = omega arith in x)
pair_at (a ∷ b ∷ l) zero h =
    record { before = []; after = pairs l; is = refl; counted = refl }
pair_at (a ∷ b ∷ l) (suc i) h =
    let r = pair_at l i (omega arith) in
    let p : suc (suc (2 * i)) ≡ 2 * suc i = omega arith in
    let q : suc (suc (2 * i + 1)) ≡ 2 * suc i + 1 = omega arith in
    let first : start_in l i ≡ start_in (a ∷ b ∷ l) (suc i) = ap (λ (k : ℕ). get_or (a ∷ b ∷ l) k 0) p in
    let second : goal_in l i ≡ goal_in (a ∷ b ∷ l) (suc i) = ap (λ (k : ℕ). get_or (a ∷ b ∷ l) k 0) q in
    record {
      before = (a ∷ b ∷ []) ∷ r.before;
      after = r.after;
      is =
          ap (λ (es : List (List ℕ)). (a ∷ b ∷ []) ∷ es) r.is
          ∙ (λ x. ((a ∷ b ∷ []) ∷ r.before) ++ ((first x ∷ second x ∷ []) ∷ r.after));
      counted = ap suc r.counted;
    }

-- a text up to an entry, the entry, and the rest
entry_split : (read : List Content) (w : List ℕ) (n : ℕ) (a : List (List ℕ)) (e : List ℕ) (b : List (List ℕ))
    (cs : List Content)
    → written (read ++ (content w n (a ++ (e ∷ b)) ∷ cs))
    ≡ written (read ++ (content w n a ∷ [])) ++ (entry_line e ++ (entry_lines b ++ written cs))
unfolding written entry_lines
entry_split read w n a e b cs = simp (written_append, entries_append, append-nil, append_assoc)

-- ---- the carrier's line

module _ (t : List ℕ) (j : Numbers) (w : WrittenJob t j) (i : ℕ) (inside : i < job.carriers j) where
  above : List Content
  above = content NODES j.network.nodes []
      ∷ content LANES (lanes_in j.network.lanes) (pairs j.network.lanes)
      ∷ closed_contents j.network.closed

  its : PairAt j.moves i
  its = pair_at j.moves i inside

  front : List Content
  front = above ++ (content CARRIERS (job.carriers j) its.before ∷ [])

  lined : Lined front
  unfolding front above
  lined =
      let shut = closed_lined j.network.closed in
      let carriers : Lined (content CARRIERS (job.carriers j) its.before ∷ []) = (job_told.2.2.2.0, tt) in
      (job_told.0, (job_told.2.0, lined_append (closed_contents j.network.closed) _ shut carriers))

  here : suc (line_count front) ≡ line_of j i
  unfolding front above line_count
  here =
      omega (
        arith,
        carrier_line_lem j i,
        pairs_count j.network.lanes,
        its.counted,
        lines_append (closed_contents j.network.closed)
            (content CARRIERS (job.carriers j) its.before ∷ []),
        closed_lines_lem j.network.closed,
      )

  pub carrier_written : LineIs t (line_of j i) (entry_line (start j i ∷ goal j i ∷ []))
  unfolding front above
  carrier_written =
      let last = content ORDER (length j.order) (singles j.order) ∷ dwell_contents j.dwell in
      let text : t ≡ written (above ++ (content CARRIERS (job.carriers j) (pairs j.moves) ∷ last)) =
      w.writes in
      let whole : t ≡ written front ++
      (entry_line (start j i ∷ goal j i ∷ []) ++ (entry_lines its.after ++ written last)) =
      text
      ∙ ap (λ (es : List (List ℕ)). written (above ++ (content CARRIERS (job.carriers j) es ∷ last)))
      its.is
      ∙ entry_split above CARRIERS (job.carriers j) its.before (start j i ∷ goal j i ∷ []) its.after
      last in
      rw (whole, ← here) (line_is front (entry_line (start j i ∷ goal j i ∷ []))
      (entry_lines its.after ++ written last) lined)

-- What the text of a job says, by the entries of its sections (rules 7.1, 7.13, 7.17 and 7.18). Each section
-- has a word of its own, so that the one with a word is found behind the others: what the sections say is put
-- together to a job without loss, and the contents of a job tell the job. A section that may be missing is
-- there by cases, where it stands and where it does not. Assumes nothing.
--     closed_read        the closed nodes' section by its entries; it does not stand with none
--     closed_stands     so it is, where it stands; dwell_stands so is the dwell's, which has no entries
--     nodes_read, closed_read, carriers_read    what the checks of later sections ask for
--     job_sections       the sections of a job text by their entries, those of the closed nodes and of the
--                       dwell where they stand
--     job_in_lem            the job that they say; closed_count how many closed nodes
--     sections_said     the contents of a job are such sections
--     job_in_contents   the job that the contents of a job say is this job
--     closed_said, carriers_said    the counts that they have
use mathlib.Core.Path.{◌≡◌, refl, sym, ◌∙◌, ap}
use mathlib.Core.List.{List, [], ◌∷◌, ◌++◌}
use Prim.Native.Nat.{ℕ, zero, suc, ◌≤◌}
use native.Mathlib.Omega.{arith}
use lib.ListN.{length}
use Rattle.hall.specs.Floor.{network_of, lanes_in}
use Rattle.hall.specs.Job.{Numbers, job_of, carriers}
use Rattle.form.specs.Sections.{Content, content, same_words, count_of, numbers_of, numbers_in}
use Rattle.form.specs.Words.{NODES, LANES, CLOSED, CARRIERS, ORDER, DWELL}
use Rattle.form.specs.Jobs.{pairs, singles, closed_contents, dwell_contents, contents_of, job_in}
use Rattle.form.proofs.Rows.{ByTwos, pairs_back, singles_back, singles_count}

-- ---- sections that may be missing

abbrev pub closed_read : (shut : List (List ℕ)) → List Content
closed_read [] = []
closed_read (e ∷ es) = content CLOSED (length (e ∷ es)) (e ∷ es) ∷ []

pub closed_stands : (q : ℕ) (shut : List (List ℕ)) → length shut ≡ q → 1 ≤ q
    → content CLOSED q shut ∷ [] ≡ closed_read shut
closed_stands q [] e h = absurd (let x : ⊥ = omega arith in x)
closed_stands q (s ∷ es) e h = ap (λ (k : ℕ). content CLOSED k (s ∷ es) ∷ []) (sym e)

pub dwell_stands : (w : ℕ) (none : List (List ℕ)) → length none ≡ 0 → 1 ≤ w
    → content DWELL w none ∷ [] ≡ dwell_contents w
dwell_stands zero none e h = absurd (let x : ⊥ = omega arith in x)
dwell_stands (suc w) [] e h = refl
dwell_stands (suc w) (s ∷ es) e h = absurd (let x : ⊥ = omega arith in x)

-- ---- what was read, by its words

pub nodes_read : (n : ℕ) (none : List (List ℕ)) (more : List Content)
    → count_of NODES (content NODES n none ∷ more) ≡ n
unfolding count_of same_words NODES
nodes_read n none more = refl

pub closed_read_lem : (n m : ℕ) (none lanes shut : List (List ℕ))
    → numbers_of CLOSED (content NODES n none ∷ content LANES m lanes ∷ closed_read shut) ≡ numbers_in shut
unfolding numbers_of numbers_in same_words NODES LANES CLOSED
closed_read_lem n m none lanes [] = refl
closed_read_lem n m none lanes (e ∷ es) = refl

pub carriers_read : (n m k : ℕ) (none lanes shut moves : List (List ℕ)) (more : List Content)
    → count_of CARRIERS
    (content NODES n none ∷ content LANES m lanes ∷ (closed_read shut ++ (content CARRIERS k moves ∷ more)))
    ≡ k
unfolding count_of same_words NODES LANES CLOSED CARRIERS
carriers_read n m k none lanes [] moves more = refl
carriers_read n m k none lanes (e ∷ es) moves more = refl

-- ---- all sections

abbrev pub job_sections : (n m k p w : ℕ) (none lanes shut moves order : List (List ℕ)) → List Content
job_sections n m k p w none lanes shut moves order =
    content NODES n none
    ∷ content LANES m lanes
    ∷ (closed_read shut ++ (content CARRIERS k moves ∷ content ORDER p order ∷ dwell_contents w))

pub job_in_lem : (n m k p w : ℕ) (none lanes shut moves order : List (List ℕ))
    → job_in (job_sections n m k p w none lanes shut moves order)
    ≡ job_of (network_of n (numbers_in lanes) (numbers_in shut)) (numbers_in moves) (numbers_in order) w
unfolding count_of numbers_of numbers_in same_words NODES LANES CLOSED CARRIERS ORDER DWELL
job_in_lem n m k p zero none lanes [] moves order = refl
job_in_lem n m k p zero none lanes (e ∷ es) moves order = refl
job_in_lem n m k p (suc w) none lanes [] moves order = refl
job_in_lem n m k p (suc w) none lanes (e ∷ es) moves order = refl

pub closed_count_lem : (n m k p w : ℕ) (none lanes shut moves order : List (List ℕ))
    → count_of CLOSED (job_sections n m k p w none lanes shut moves order) ≡ length shut
unfolding count_of same_words NODES LANES CLOSED CARRIERS ORDER DWELL
closed_count_lem n m k p zero none lanes [] moves order = refl
closed_count_lem n m k p (suc w) none lanes [] moves order = refl
closed_count_lem n m k p w none lanes (e ∷ es) moves order = refl

-- ---- the contents of a job

closed_entries : (l : List ℕ) → closed_contents l ≡ closed_read (singles l)
unfolding singles
closed_entries [] = refl
closed_entries (v ∷ l) =
    ap (λ (k : ℕ). content CLOSED (suc k) (singles (v ∷ l)) ∷ []) (sym (singles_count l))

module _ (j : Numbers) where
  abbrev its-sections : List Content
  its-sections =
      job_sections j.network.nodes (lanes_in j.network.lanes) (carriers j) (length j.order)
      j.dwell [] (pairs j.network.lanes) (singles j.network.closed) (pairs j.moves)
      (singles j.order)

  pub sections_said : contents_of j ≡ its-sections
  sections_said =
      ap
      (λ (c : List Content).
      content NODES j.network.nodes []
      ∷ content LANES (lanes_in j.network.lanes) (pairs j.network.lanes)
      ∷ (c
      ++ (content CARRIERS (carriers j) (pairs j.moves)
      ∷ content ORDER (length j.order) (singles j.order)
      ∷ dwell_contents j.dwell)))
      (closed_entries j.network.closed)

  pub job_in_contents : ByTwos j.network.lanes → ByTwos j.moves → job_in (contents_of j) ≡ j
  job_in_contents lanes moves =
      let l = pairs_back j.network.lanes lanes in
      let c = singles_back j.network.closed in
      let m = pairs_back j.moves moves in
      let o = singles_back j.order in
      ap job_in sections_said ∙ job_in_lem _ _ _ _ _ _ _ _ _ _
      ∙ (λ i. job_of (network_of j.network.nodes (l i) (c i)) (m i) (o i) j.dwell)

  pub closed_said : count_of CLOSED (contents_of j) ≡ length j.network.closed
  closed_said =
      ap (count_of CLOSED) sections_said
      ∙ closed_count_lem _ _ (carriers j) (length j.order) j.dwell _ _ (singles j.network.closed)
      (pairs j.moves) (singles j.order)
      ∙ singles_count j.network.closed

  pub carriers_said : count_of CARRIERS (contents_of j) ≡ carriers j
  carriers_said =
      let behind = content ORDER (length j.order) (singles j.order) ∷ dwell_contents j.dwell in
      ap (count_of CARRIERS) sections_said
      ∙ carriers_read _ _ _ _ _ (singles j.network.closed) (pairs j.moves) behind

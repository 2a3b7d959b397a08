-- The rows of a node, and the blocks that they make. The distances from a node, copied to the rows of all
-- carriers that begin at it, fill these; the copies in one block leave the other blocks. The distance depends
-- on the nodes alone, so one walk serves every carrier with this start or goal. Node after node the places of
-- two carriers come to hold their distances, since every row begins at a start or a goal; every other place
-- stays zero or as it came. Assumes nothing.
--     end_below          where every start and goal is an open node, every number of the moves is a node
--     node_filled        a walk and its copies in three blocks make the rows of a node
--     FilledTo           where the loop over the starts and goals stands before place n of the moves
--     filled_more        a node more
--     filled_same        a node that came before has its rows already
--     filled_all         after the last
--     served_by          what the tests of `fill` leave is served
--     over_zeroed        a table filled over one that was zeroed first is the one that came, filled
use mathlib.Core.Path.{◌≡◌, refl, sym, ◌∙◌, ap, subst}
use mathlib.Core.Logic.{◌≢◌, inl, inr}
use mathlib.Core.List.{List}
use Prim.Native.Nat.{ℕ, zero, suc, ◌+◌, ◌*◌, ◌/◌, ◌%◌, ◌≤◌, ◌<◌}
use native.Mathlib.Decide.{ℕ_discrete, dec_lt}
use native.Mathlib.Omega.{arith}
use lib.ListN.{length, get_or}
use Rattle.hall.specs.Limits.{node_limit, carrier_limit, block_length, goal_block, table_length}
use Rattle.hall.specs.Floor.{Network, floor, DistanceIs}
use Rattle.hall.specs.Job.{move_count, EndsOn}
use Rattle.hall.specs.Left.{zeroed}
use Rattle.hall.proofs.Left.{zeroed_length, zeroed_beyond}
use Rattle.walk.specs.Row
use Rattle.tables.specs.Filling.{EachBelow, TableServed, Used, TableFilled}
use Rattle.tables.specs.Blocks.{row_from, read_at, place_in, OutsideRow, OutsideRows, RowsCopied}
use Rattle.tables.specs.Blocks.{NodeFilled, CameBefore}

-- for a caller whose moves have open ends
pub end_below : (N : Network) {moves : List ℕ} → EndsOn (floor N) moves → EachBelow moves N.nodes
end_below N {moves} ends_open x h = cases (ℕ_discrete (x % 2) 0)
  where
    cases : Dec (x % 2 ≡ 0) → get_or moves x 0 < N.nodes
    cases (yes e) = subst (λ (y : ℕ). get_or moves y 0 < N.nodes) (omega arith) (ends_open.starts (x / 2) (omega arith)).numbered
    cases (no e) = subst (λ (y : ℕ). get_or moves y 0 < N.nodes) (omega arith) (ends_open.goals (x / 2) (omega arith)).numbered

-- ---- the rows of a node

-- rows of two blocks have no place in common
other_block : {k i i' j : ℕ} (block block' : ℕ) → k ≤ carrier_limit → block ≢ block' → i < k → i' < k → j < k
    → OutsideRow k block' i' (place_in block i j)
other_block {k} {i} {i'} {j} block block' few differ h h' l = cases (dec_lt block block')
  where
    cases : Dec (block < block') → OutsideRow k block' i' (place_in block i j)
    cases (yes x) = inl (omega arith)
    cases (no x) = inr (omega arith)

module _ (N : Network) (moves : List ℕ) (node : ℕ) (few : move_count moves ≤ carrier_limit) (numbered : EachBelow moves N.nodes) where
  pub node_filled : {row left table₀ table₁ table₂ table₃ : List ℕ}
      → Row.RowFilled N node row left
      → RowsCopied left moves node 0 (move_count moves) table₀ table₁
      → RowsCopied left moves node 1 (move_count moves) table₁ table₂
      → RowsCopied left moves node 2 (move_count moves) table₂ table₃
      → NodeFilled N moves node table₀ table₃
  node_filled {left = left} {table₀ = table₀} {table₁ = table₁} {table₂ = table₂} {table₃ = table₃} f c₀ c₁ c₂ = record {
    size = c₂.size ∙ c₁.size ∙ c₀.size;
    held = λ block i j b h l e. rw (in_row block i j b h l e) (f.holds (read_at moves block j) (numbered (2 * j + (block + 1) / 2) (omega arith)));
    others = λ x out. c₂.others x (out 2 (omega arith)) ∙ c₁.others x (out 1 (omega arith)) ∙ c₀.others x (out 0 (omega arith));
  }
    where
      in_row : (block i j : ℕ) → block < 3 → i < move_count moves → j < move_count moves → row_from moves block i ≡ node
          → get_or table₃ (place_in block i j) 0 ≡ get_or left (read_at moves block j) 0
      in_row zero i j b h l e =
          c₂.others (place_in 0 i j) (λ i' h' e'. other_block 0 2 few (omega arith) h h' l)
          ∙ c₁.others (place_in 0 i j) (λ i' h' e'. other_block 0 1 few (omega arith) h h' l)
          ∙ c₀.copied i j h l e
      in_row (suc zero) i j b h l e = c₂.others (place_in 1 i j) (λ i' h' e'. other_block 1 2 few (omega arith) h h' l) ∙ c₁.copied i j h l e
      in_row (suc (suc zero)) i j b h l e = c₂.copied i j h l e
      in_row (suc (suc (suc m))) i j b h l e = absurd (let x : ⊥ = omega arith in x)

-- ---- node after node

-- the rows that begin at one of the first n starts and goals are filled; a place in no row is as it came
pub record FilledTo (N : Network) (moves table : List ℕ) (n : ℕ) (table' : List ℕ) : Type 0 where
  pub size : length table' ≡ length table
  pub held : (block i j : ℕ) → block < 3 → i < move_count moves → j < move_count moves → CameBefore moves n (row_from moves block i)
      → DistanceIs (floor N) (row_from moves block i) (read_at moves block j) (get_or table' (place_in block i j) 0)
  pub unused : (x : ℕ) → x < table_length → ¬ Used (move_count moves) x → get_or table' x 0 ≡ get_or table x 0
  pub beyond : (x : ℕ) → table_length ≤ x → get_or table' x 0 ≡ get_or table x 0

module _ (N : Network) (moves table : List ℕ) where
  module _ (n : ℕ) {table' : List ℕ} (f : FilledTo N moves table n table') where
    -- a node that came before has its rows
    pub filled_same : CameBefore moves n (get_or moves n 0) → FilledTo N moves table (n + 1) table'
    filled_same earlier = record {
      size = f.size;
      held = λ block i j b h l a. f.held block i j b h l (before a);
      unused = f.unused;
      beyond = f.beyond;
    }
      where
        before : {v : ℕ} → CameBefore moves (n + 1) v → CameBefore moves n v
        before {v} a = cases (ℕ_discrete a.place n)
          where
            cases : Dec (a.place ≡ n) → CameBefore moves n v
            cases (yes e) = record { place = earlier.place; before = earlier.before; same = earlier.same ∙ ap (λ (x : ℕ). get_or moves x 0) (sym e) ∙ a.same }
            cases (no e) = record { place = a.place; before = omega (arith, a.before); same = a.same }

    pub filled_more : {table'' : List ℕ} → move_count moves ≤ carrier_limit → NodeFilled N moves (get_or moves n 0) table' table'' → FilledTo N moves table (n + 1) table''
    filled_more {table''} few c = record {
      size = c.size ∙ f.size;
      held = λ block i j b h l a. by_node block i j b h l a (ℕ_discrete (row_from moves block i) (get_or moves n 0));
      unused = λ x h not-used. c.others x (λ block b i k e. unused_outside block i x b k not-used) ∙ f.unused x h not-used;
      beyond = λ x h. c.others x (λ block b i k e. inr (omega arith)) ∙ f.beyond x h;
    }
      where
        -- a place that belongs to no two carriers is in no row
        unused_outside : (block i x : ℕ) → block < 3 → i < move_count moves → ¬ Used (move_count moves) x → OutsideRow (move_count moves) block i x
        unused_outside block i x b k not-used = cases (dec_lt x (block_length * block + carrier_limit * i)) (dec_lt x (place_in block i (move_count moves)))
          where
            cases : Dec (x < block_length * block + carrier_limit * i) → Dec (x < place_in block i (move_count moves)) → OutsideRow (move_count moves) block i x
            cases (yes l) m = inl l
            cases (no l) (no m) = inr (omega arith)
            cases (no l) (yes m) = absurd (not-used (record { first = omega arith; second = omega arith }))

        -- a row that begins at another node shares no place with one that begins at this
        other_node : (block i j : ℕ) → i < move_count moves → j < move_count moves → ¬ (row_from moves block i ≡ get_or moves n 0)
            → (block' : ℕ) → OutsideRows moves (get_or moves n 0) block' (move_count moves) (place_in block i j)
        other_node block i j h l ne block' i' h' e' = cases (ℕ_discrete block block') (dec_lt i i') (dec_lt i' i)
          where
            cases : Dec (block ≡ block') → Dec (i < i') → Dec (i' < i) → OutsideRow (move_count moves) block' i' (place_in block i j)
            cases (no x) y z = other_block block block' few x h h' l
            cases (yes x) (yes y) z = inl (omega arith)
            cases (yes x) (no y) (yes z) = inr (omega arith)
            cases (yes x) (no y) (no z) =
                let same : i' ≡ i = omega arith in
                absurd (ne (rw (x, ← same) e'))

        by_node : (block i j : ℕ) → block < 3 → i < move_count moves → j < move_count moves → CameBefore moves (n + 1) (row_from moves block i) → Dec (row_from moves block i ≡ get_or moves n 0)
            → DistanceIs (floor N) (row_from moves block i) (read_at moves block j) (get_or table'' (place_in block i j) 0)
        by_node block i j b h l a (yes e) = rw e (c.held block i j b h l e)
        by_node block i j b h l a (no ne) =
            rw (c.others (place_in block i j) (λ block' b'. other_node block i j h l ne block'))
            (f.held block i j b h l (record { place = a.place; before = earlier (ℕ_discrete a.place n); same = a.same }))
          where
            earlier : Dec (a.place ≡ n) → a.place < n
            earlier (yes e) = absurd (ne (sym a.same ∙ ap (λ (x : ℕ). get_or moves x 0) e))
            earlier (no e) = omega (arith, a.before)

  -- all starts and goals, over a table whose least length was zero
  pub filled_all : {table' : List ℕ} → TableServed N moves (length table) → ((x : ℕ) → x < table_length → get_or table x 0 ≡ 0)
      → FilledTo N moves table (2 * move_count moves) table' → TableFilled N moves table table'
  filled_all {table'} s zero-before f = record {
    served = s;
    true_distances = record {
      starts = λ i j h l. distance 0 i j (2 * i) (2 * j) (carrier_limit * i + j) (omega arith) h l (omega arith) (omega arith) (omega arith);
      goals = λ i j h l. distance 2 i j (2 * i + 1) (2 * j + 1) (goal_block + (carrier_limit * i + j)) (omega arith) h l (omega arith) (omega arith) (omega arith);
      start_goal = λ i j h l. distance 1 i j (2 * i) (2 * j + 1) (block_length + (carrier_limit * i + j)) (omega arith) h l (omega arith) (omega arith) (omega arith);
    };
    table_left = record {
      size = f.size;
      unused = λ x h n. f.unused x h n ∙ zero-before x h;
      beyond = f.beyond;
    };
  }
    where
      -- each row begins at a start or a goal, and each of these came
      distance : (block i j first second place : ℕ) → block < 3 → i < move_count moves → j < move_count moves
          → 2 * i + block / 2 ≡ first → 2 * j + (block + 1) / 2 ≡ second → place_in block i j ≡ place
          → DistanceIs (floor N) (get_or moves first 0) (get_or moves second 0) (get_or table' place 0)
      distance block i j first second place b h l e₁ e₂ e₃ =
          rw (← e₁, ← e₂, ← e₃) (f.held block i j b h l (record { place = 2 * i + block / 2; before = omega arith; same = refl }))

-- what the tests leave is served
pub served_by : (N : Network) (moves : List ℕ) {room : ℕ} → N.nodes ≤ node_limit → move_count moves ≤ carrier_limit → table_length ≤ room
    → EachBelow moves N.nodes
    → TableServed N moves room
served_by N moves n k t below = record { few_nodes = n; few_carriers = k; whole_table = t; numbered = below }

-- a table filled over one that was zeroed first is the one that came, filled
pub over_zeroed : {N : Network} {moves zero_table table' : List ℕ} (table : List ℕ) → zero_table ≡ zeroed table_length table → TableFilled N moves zero_table table'
    → TableFilled N moves table table'
over_zeroed {N} {moves} {zero_table} {table'} table e f = record {
  served = subst (λ (n : ℕ). TableServed N moves n) same_length f.served;
  true_distances = f.true_distances;
  table_left = record {
    size = f.table_left.size ∙ same_length;
    unused = f.table_left.unused;
    beyond = λ x h. f.table_left.beyond x h ∙ ap (λ (l : List ℕ). get_or l x 0) e ∙ zeroed_beyond table_length table x h;
  };
}
  where
    same_length : length zero_table ≡ length table
    same_length = ap length e ∙ zeroed_length table_length table

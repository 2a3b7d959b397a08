-- The kind of a byte, by where its number lies, and back. Each law turns the tests of `kind_of` one by one; a
-- byte lies in one of seven places. Assumes nothing.
--     kind-..      a byte that lies there has this kind; `kinds` all of these laws
--     LiesIn       where the bytes of a kind lie; `lies` a byte of the kind lies there
use mathlib.Core.Path.{◌≡◌}
use mathlib.Core.Logic.{◌≢◌}
use Prim.Native.Nat.{ℕ, ◌≤◌, ◌<◌}
use native.Mathlib.Decide.{dec_lt, ℕ_discrete}
use native.Mathlib.Omega.{arith}
use borrow.Author.Tests.{le-leb, lt-leb, ne_eqb}
use Rattle.cursor.specs.declared.bytes.Kind.{Kind}
use Rattle.cursor.specs.declared.bytes.Kind.TheVariants.{Digit, Space, LineFeed, Capital, Other}
use Rattle.cursor.specs.Bytes.{kind_of}

module _ (b : ℕ) where
  pub kind_digit : 48 ≤ b → b ≤ 57 → kind_of b ≡ Digit
  unfolding kind_of
  kind_digit low high = simp (le-leb 48 b low, le-leb b 57 high)

  pub kind_space : b ≡ 32 → kind_of b ≡ Space
  unfolding kind_of
  kind_space e = rw e

  pub kind_line_feed : b ≡ 10 → kind_of b ≡ LineFeed
  unfolding kind_of
  kind_line_feed e = rw e

  pub kind_capital : 65 ≤ b → b ≤ 90 → kind_of b ≡ Capital
  unfolding kind_of
  kind_capital low high =
      simp (
        le-leb 48 b (omega arith),
        lt-leb b 57 (omega arith),
        ne_eqb b 32 (omega arith),
        ne_eqb b 10 (omega arith),
        le-leb 65 b low,
        le-leb b 90 high,
      )

  pub kind_low : b < 48 → b ≢ 32 → b ≢ 10 → kind_of b ≡ Other
  unfolding kind_of
  kind_low h s l = simp (lt-leb 48 b h, ne_eqb b 32 s, ne_eqb b 10 l, lt-leb 65 b (omega arith))

  pub kind_between : 57 < b → b < 65 → kind_of b ≡ Other
  unfolding kind_of
  kind_between low high =
      simp (
        le-leb 48 b (omega arith),
        lt-leb b 57 low,
        ne_eqb b 32 (omega arith),
        ne_eqb b 10 (omega arith),
        lt-leb 65 b high,
      )

  pub kind_high : 90 < b → kind_of b ≡ Other
  unfolding kind_of
  kind_high h =
      simp (
        le-leb 48 b (omega arith),
        lt-leb b 57 (omega arith),
        ne_eqb b 32 (omega arith),
        ne_eqb b 10 (omega arith),
        le-leb 65 b (omega arith),
        lt-leb b 90 h,
      )

-- the kind of a byte, wherever it lies
pub ruleset kinds = (kind_digit, kind_space, kind_line_feed, kind_capital, kind_low, kind_between, kind_high)

-- ---- where the bytes of a kind lie

abbrev pub LiesIn : Kind → ℕ → Type 0
LiesIn Digit b = (48 ≤ b) × (b ≤ 57)
LiesIn Space b = b ≡ 32
LiesIn LineFeed b = b ≡ 10
LiesIn Capital b = (65 ≤ b) × (b ≤ 90)
LiesIn Other b = Unit

own_kind : (b : ℕ) → LiesIn (kind_of b) b
own_kind b = cases (dec_lt b 48) (ℕ_discrete b 32) (ℕ_discrete b 10) (dec_lt 57 b) (dec_lt b 65) (dec_lt 90 b)
  where
    cases : Dec (b < 48) → Dec (b ≡ 32) → Dec (b ≡ 10) → Dec (57 < b) → Dec (b < 65) → Dec (90 < b)
        → LiesIn (kind_of b) b
    cases (yes h) (yes s) l x y z = rw (kind_space b s) s
    cases (yes h) (no s) (yes l) x y z = rw (kind_line_feed b l) l
    cases (yes h) (no s) (no l) x y z = rw (kind_low b h s l) tt
    cases (no h) s l (no x) y z =
        rw (kind_digit b (omega arith) (omega arith)) (omega arith, omega arith)
    cases (no h) s l (yes x) (yes y) z = rw (kind_between b x y) tt
    cases (no h) s l (yes x) (no y) (no z) =
        rw (kind_capital b (omega arith) (omega arith)) (omega arith, omega arith)
    cases (no h) s l (yes x) (no y) (yes z) = rw (kind_high b z) tt

pub lies : (b : ℕ) (k : Kind) → kind_of b ≡ k → LiesIn k b
lies b k e = rw e at (own_kind b)

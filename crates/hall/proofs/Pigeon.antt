-- More numbers than places: two in one place. So a distance is below the number of nodes, since a shortest
-- path stands on no node twice, and an order of k different carrier numbers below k lists them all. Assumes
-- nothing.
use mathlib.Core.Path.{◌≡◌, sym, ◌∙◌, ap}
use mathlib.Core.Logic.{◌≢◌}
use mathlib.Core.List.{List}
use Prim.Native.Nat.{ℕ, zero, suc, ◌≤◌, ◌<◌, zero-le}
use native.Mathlib.Nat.{not-suc-le-zero}
use native.Mathlib.Decide.{ℕ_discrete}
use native.Mathlib.Omega.{arith}
use lib.ListN.{get_or}
use Rattle.hall.specs.Floor.{Floor, Dist}
use Rattle.hall.specs.Path.{PathOf}
use Rattle.hall.proofs.Walks.{dist_unique}
use Rattle.hall.proofs.Lists.{listed}
use Rattle.hall.proofs.Paths.{start_distance}

-- v in the place of n
swap : {x n : ℕ} → Dec (x ≡ n) → ℕ → ℕ
swap {x} (yes h) v = v
swap {x} (no h) v = x

swap_below : (x n v : ℕ) (d : Dec (x ≡ n)) → x < suc n → (x ≡ n → v < n) → swap d v < n
unfolding swap
swap_below x n v (yes h) a b = b h
swap_below x n v (no h) a b = omega arith

swap_same : (x y n v : ℕ) (d : Dec (x ≡ n)) (e : Dec (y ≡ n)) → x ≢ v → y ≢ v → swap d v ≡ swap e v → x ≡ y
unfolding swap
swap_same x y n v (yes h) (yes k) a b s = h ∙ sym k
swap_same x y n v (yes h) (no k) a b s = absurd (b (sym s))
swap_same x y n v (no h) (yes k) a b s = absurd (a s)
swap_same x y n v (no h) (no k) a b s = s

pub pigeon : (n m : ℕ) (f : ℕ → ℕ) → ((i : ℕ) → i < m → f i < n) → ((i j : ℕ) → i < m → j < m → f i ≡ f j → i ≡ j) → m ≤ n
pigeon n zero f below inj = zero-le
pigeon zero (suc m) f below inj = absurd (not-suc-le-zero (below 0 (omega arith)))
pigeon (suc n) (suc m) f below inj =
    let r = pigeon n m g g_below g_inj in omega arith
  where
    g : ℕ → ℕ
    g i = swap (ℕ_discrete (f i) n) (f m)

    other : (i : ℕ) → i < m → f i ≢ f m
    other i h e = let x = inj i m (omega arith) (omega arith) e in omega arith

    g_below : (i : ℕ) → i < m → g i < n
    g_below i h = swap_below (f i) n (f m) (ℕ_discrete (f i) n) (below i (omega arith)) (λ e. let a = below m (omega arith) in let b = other i h in omega arith)

    g_inj : (i j : ℕ) → i < m → j < m → g i ≡ g j → i ≡ j
    g_inj i j hi hj e = inj i j (omega arith) (omega arith) (swap_same (f i) (f j) n (f m) (ℕ_discrete (f i) n) (ℕ_discrete (f j) n) (other i hi) (other j hj) e)

-- a distance on a floor of n nodes is below n
pub dist_below : {F : Floor} (n : ℕ) → ((v : ℕ) → F.Node v → v < n) → {a b d : ℕ} → Dist F a b d → d < n
dist_below {F} n below {a} {b} {d} h = pigeon n (suc d) (λ i. get_or l i 0) node_in same
  where
    l : List ℕ
    l = (listed h.walk).0

    p : PathOf F a b d l
    p = (listed h.walk).1

    node_in : (i : ℕ) → i < suc d → get_or l i 0 < n
    node_in i k = below (get_or l i 0) (p.nodes i (omega arith))

    same : (i j : ℕ) → i < suc d → j < suc d → get_or l i 0 ≡ get_or l j 0 → i ≡ j
    same i j hi hj e = dist_unique (rw e at (start_distance p h i (omega arith))) (start_distance p h j (omega arith))

-- ---- where a number is listed

pub record Listed (f : ℕ → ℕ) (m c : ℕ) : Type 0 where
  pub place : ℕ
  pub inside : place < m
  pub is : f place ≡ c

look : (f : ℕ → ℕ) (m c : ℕ) → Dec (Listed f m c)
look f zero c = no (λ h. not-suc-le-zero h.inside)
look f (suc m) c = cases (look f m c) (ℕ_discrete (f m) c)
  where
    cases : Dec (Listed f m c) → Dec (f m ≡ c) → Dec (Listed f (suc m) c)
    cases (yes h) e = yes (record { place = h.place; inside = omega (arith, h.inside); is = h.is })
    cases (no h) (yes e) = yes (record { place = m; inside = omega arith; is = e })
    cases (no h) (no e) = no (λ x. last x (ℕ_discrete x.place m))
      where
        last : (x : Listed f (suc m) c) → Dec (x.place ≡ m) → ⊥
        last x (yes y) = e (ap f (sym y) ∙ x.is)
        last x (no y) = h (record { place = x.place; inside = omega (arith, x.inside); is = x.is })

-- k different numbers below k are all the numbers below k
pub all_listed : (k : ℕ) (f : ℕ → ℕ) → ((i : ℕ) → i < k → f i < k) → ((i j : ℕ) → i < k → j < k → f i ≡ f j → i ≡ j) → (c : ℕ) → c < k → Listed f k c
all_listed zero f below inj c h = absurd (not-suc-le-zero h)
all_listed (suc k) f below inj c h = cases (look f (suc k) c)
  where
    g : ℕ → ℕ
    g i = swap (ℕ_discrete (f i) k) c

    cases : Dec (Listed f (suc k) c) → Listed f (suc k) c
    cases (yes x) = x
    cases (no x) = absurd (let r = pigeon k (suc k) g g_below g_inj in let y : ⊥ = omega arith in y)
      where
        other : (i : ℕ) → i < suc k → f i ≢ c
        other i l e = x (record { place = i; inside = l; is = e })

        g_below : (i : ℕ) → i < suc k → g i < k
        g_below i l = swap_below (f i) k c (ℕ_discrete (f i) k) (below i l) (λ e. let b = other i l in omega arith)

        g_inj : (i j : ℕ) → i < suc k → j < suc k → g i ≡ g j → i ≡ j
        g_inj i j hi hj e = inj i j hi hj (swap_same (f i) (f j) k c (ℕ_discrete (f i) k) (ℕ_discrete (f j) k) (other i hi) (other j hj) e)

-- One outcome fits each promise of this crate. Two house paths are equal (hall's `house_unique`), with zeros
-- behind them and the places beyond as they came, so the lists left are equal; a house path and a fault
-- exclude each other; of two first faults there is one. The choice is one pointer and one content, since its
-- three cases exclude each other: own and spare are the lent references themselves, and the empty part has
-- the own list's pointer and no nodes. Assumes nothing.
use mathlib.Core.Path.{◌≡◌, sym, ◌∙◌, ap, subst}
use mathlib.Core.List.{List}
use Prim.Native.Nat.{ℕ, ◌<◌}
use native.Mathlib.Decide.{dec_lt}
use native.Mathlib.Omega.{arith}
use lib.ListN.{get_or, take}
use lib.Seq.{ext_get_or, get_or-take}
use denote.Ref.{Bor}
use Rattle.std.specs.Prelude.{Result, Ok, Err}
use Rattle.hall.specs.declared.Refusal.{Refusal}
use Rattle.hall.specs.Limits.{node_limit}
use Rattle.hall.specs.Floor.{Network, floor}
use Rattle.hall.specs.Path.{HousePath}
use Rattle.hall.specs.Stages.{Question}
use Rattle.hall.specs.Questions.{house_of_move, list_of_move}
use Rattle.hall.specs.Left.{left}
use Rattle.hall.proofs.Walks.{dist_unique}
use Rattle.hall.proofs.House.{house_unique}
use Rattle.hall.proofs.Numbers.{number_one_fault}
use Rattle.hall.proofs.Stages.{none_excludes, first_unique, judged_unique}
use Rattle.path.specs.Paths.{Unfit, said_housed, House, HouseLeft, HouseAnswer, ListAnswer}
use Rattle.path.specs.Paths.{Chosen, own_list, spare_list, neither, ChoiceAnswer}

module _ {N : Network} {s g : ℕ} {path : List ℕ} where
  house_count : {l l' : List ℕ} {c c' : ℕ} → House N s g path l c → House N s g path l' c' → c ≡ c'
  house_count a b =
      let same = dist_unique a.is_house_path.short b.is_house_path.short in
      omega (arith, a.nodes_of_it, b.nodes_of_it, same)

  house_left : {l l' : List ℕ} {c : ℕ} → House N s g path l c → House N s g path l' c → l ≡ l'
  house_left {l} {l'} {c} a b =
      ext_get_or 0 l l' (a.same_length ∙ sym b.same_length) (λ k h. at k (dec_lt k c) (dec_lt k node_limit))
    where
      same_d : b.d ≡ a.d
      same_d = dist_unique b.is_house_path.short a.is_house_path.short

      same_path : take c l ≡ take c l'
      same_path =
          house_unique a.is_house_path
          (subst (λ (n : ℕ). HousePath (floor N) s g n (take c l')) same_d b.is_house_path)

      at : (k : ℕ) → Dec (k < c) → Dec (k < node_limit) → get_or l k 0 ≡ get_or l' k 0
      at k (yes h) e =
          sym (get_or-take c l k 0 h) ∙ ap (λ (x : List ℕ). get_or x k 0) same_path ∙ get_or-take c l' k 0 h
      at k (no h) (yes m) = a.zeros k (omega arith) m ∙ sym (b.zeros k (omega arith) m)
      at k (no h) (no m) = a.beyond k (omega arith) ∙ sym (b.beyond k (omega arith))

-- whatever the question for the house path is
module _ (q : Question) (N : Network) (s g : ℕ) (path : List ℕ) where
  pub left_unique : (l l' : List ℕ) (r r' : Result ℕ Refusal) →
      HouseLeft q N s g path l (said_housed r) → HouseLeft q N s g path l' (said_housed r')
      → (r ≡ r') × (l ≡ l')
  left_unique l l' (Ok c) (Ok c') a b =
      let e = house_count a.1 b.1 in
      (ap Ok e, house_left a.1 (subst (λ (n : ℕ). House N s g path l' n) (sym e) b.1))
  left_unique l l' (Ok c) (Err t) a b = absurd (none_excludes b.0 a.0)
  left_unique l l' (Err r) (Ok c) a b = absurd (none_excludes a.0 b.0)
  left_unique l l' (Err r) (Err t) a b =
      let e = first_unique a.0 b.0 in
      let same = number_one_fault r.fault t.fault e.0 in (
        ap Err (λ i. record { fault = same i; place = e.1 i }),
        a.1 ∙ ap (λ (n : ℕ). left n node_limit path) e.0 ∙ sym b.1,
      )

-- ---- the three questions

module _ {N N' N'' : Network} {s g : ℕ} where
  pub house_answer_unique : {path l l' : List ℕ} {r r' : Result ℕ Refusal} →
      HouseAnswer N N' s g path l r → HouseAnswer N N'' s g path l' r' → (r ≡ r') × (l ≡ l') × (N' ≡ N'')
  house_answer_unique {path} {l} {l'} {r} {r'} a b =
      let e = left_unique (house_of_move _ N s g) N s g path l l' r r' a.given b.given in
      (e.0, e.1, a.network_kept ∙ sym b.network_kept)

  pub list_answer_unique : {list list' list'' : List ℕ} {r r' : Result Unit Refusal} →
      ListAnswer N N' s g list list' r → ListAnswer N N'' s g list list'' r'
      → (r ≡ r') × (N' ≡ N'') × (list' ≡ list'')
  list_answer_unique {list = list} {r = r} {r' = r'} a b = (
    judged_unique (list_of_move N s g (Unfit N s g list)) r r' a.judged b.judged,
    a.network_kept ∙ sym b.network_kept,
    a.list_kept ∙ sym b.list_kept,
  )

pub chosen_unique : {N : Network} {s g : ℕ} {own spare r r' : Bor (List ℕ)} →
    Chosen N s g own spare r → Chosen N s g own spare r' → (r.ref_ptr ≡ r'.ref_ptr) × (r.now ≡ r'.now)
chosen_unique (own_list p e) (own_list q f) = (ap (λ x. x.ref_ptr) (e ∙ sym f), ap (λ x. x.now) (e ∙ sym f))
chosen_unique (own_list p e) (spare_list n q f) = absurd (n p)
chosen_unique (own_list p e) (neither n m f g) = absurd (n p)
chosen_unique (spare_list n p e) (own_list q f) = absurd (n q)
chosen_unique (spare_list n p e) (spare_list m q f) = (ap (λ x. x.ref_ptr) (e ∙ sym f), ap (λ x. x.now) (e ∙ sym f))
chosen_unique (spare_list n p e) (neither m k f g) = absurd (k p)
chosen_unique (neither n m e f) (own_list q g) = absurd (n q)
chosen_unique (neither n m e f) (spare_list k q g) = absurd (m q)
chosen_unique (neither n m e f) (neither k l g h) = (e ∙ sym g, f ∙ sym h)

pub choice_unique : {N N' N'' : Network} {s g : ℕ} {own own' own'' spare spare' spare'' r r' : Bor (List ℕ)} →
    ChoiceAnswer N N' s g own own' spare spare' r → ChoiceAnswer N N'' s g own own'' spare spare'' r'
    → ((r.ref_ptr ≡ r'.ref_ptr) × (r.now ≡ r'.now)) × (N' ≡ N'') × (own' ≡ own'') × (spare' ≡ spare'')
choice_unique a b = (
  chosen_unique a.chosen b.chosen,
  a.network_kept ∙ sym b.network_kept,
  a.own_kept ∙ sym b.own_kept,
  a.spare_kept ∙ sym b.spare_kept,
)

-- Steps of `Types/Kit.antt`'s calculus for a walk that has a local array and lends its first n elements as a
-- slice: those of hand/proofs/Arrays.antt for a front and not for the whole. What is behind the front
-- stays with the lender, beside what comes back later.
--     Behind           the elements behind the first n
--     lends_front      [the elements; …] → [own of a `&ν mut [T]` of the first n; ν's token; what comes back
--                      later and what is behind; …], for a new lifetime ν
--     unlends_front    [ν's token; what comes back later and what is behind; what the callee says of the
--                      last list zs; …] → [the elements, with zs for the first n; …], and they are as many
--     shares_front, unshares_front     the same for a `&ν [T]`, T that can be shared: the list comes back as it
--                      was
-- and for the array of 80 records that the functions of this crate are passed, which need none of this today:
--     Records          its row
--     records_tells, records_typed, records_makes     the laws of it that a parameter, a copy and a call ask
--     room_within, front_fits     at most 80 of them have room, and are there
-- Assumes `Logic`.
use mathlib.Core.Path.{◌≡◌, refl, sym}
use Prim.Native.Nat.{ℕ, ◌*◌, ◌^◌, ◌<◌, ◌≤◌}
use native.Mathlib.Omega.{arith}
use mathlib.Core.List.{List, [], ◌∷◌, ◌++◌}
use lib.ListN.{length, take, drop as behind, take-append-drop}
use seplogic.Ra.Ura.{Ura}
use base.Fraction.{full_share}
use mir.Syntax.{erased}
use mir.Val.{Val}
use base.Fml.{Lft, GName, Fml, fsep, feq, flft, flent}
use types.Logic.{Logic}
use types.Kit.{Goal, Soaks, Item, ‵, ◌⊛◌, Seq, Step, step, ◌$◌, move, use1, use2, split, rewrite, fsplit, fjoin}
use types.SemTy.{cells}
use denote.RattleType.{RattleType}
use denote.Laws.{Is, Tells, Typed, Makes}
use denote.Array.{Array, array_vals, Array-Tells, Array-Lawful, Array-Makes}
use denote.Memory.{mem, shared_of}
use denote.Slice.{slice_val, MutSlice, ShrSlice, Room, finally}
use denote.Lend.{Held}
use denote.Struct.Laws as LL
use borrow.Table.Elements.{at, same_len, cut_app, join_app}
use lib.Seq.{length-take-le}
use borrow.Rule.Array.Rows.{parts_f}
use denote.Shares.{SharesAsFrom}
use Rattle.hand.proofs.Walk.{ref, look_ref}
use Rattle.records.specs.declared.Record.{Record}
use Rattle.records.specs.contracts.Record as T
use Rattle.records.proofs.Record.TheLaws as T'
use Rattle.records.proofs.Table.{rec}
use Rattle.hand.proofs.Arrays.{lends_array, unlends_array, shares_array, unshares_array}

abbrev pub Behind : (R : RattleType) (ys : List R.Denot) (b o n : ℕ) → Fml
Behind R ys b o n = cells (mem R) (behind n ys) b (at o (mem R).size (length (take n ys)))

module _ {M : Type 1} {𝓤 : Ura M} {𝓛 : Logic 𝓤} {K : Type 0} {Γ : List (Item 𝓤)} {G : Goal 𝓤 𝓛.H} where
  -- the elements are cut behind the first n
  cuts : K → (R : RattleType) (ys : List R.Denot) (b o n : ℕ) → Step K 𝓛 (‵ (cells (mem R) (take n ys) b o) ∷ ‵ (Behind R ys b o n) ∷ Γ) G (‵ (cells (mem R) ys b o) ∷ Γ) G
  cuts t R ys b o n = step (λ s.
      rewrite t 0 (λ (zs : List R.Denot). ‵ (cells (mem R) zs b o)) (sym (take-append-drop n ys)) refl $
      use1 𝓛 (‵ (cells (mem R) (take n ys) b o) ⊛ ‵ (Behind R ys b o n)) (cut_app 𝓛 (mem R) (take n ys) (behind n ys) b o) $ split t $ s)

  pub lends_front : K → Soaks G → (R : RattleType) (ys : List R.Denot) (b o n : ℕ) → n ≤ length ys → Room R n
      → ((ν : ℕ) (δ : GName) → Seq K 𝓛 (‵ ((MutSlice erased (ν ∷ []) R).own_val (ref b o δ (take n ys)) (slice_val (b, o) n ∷ [])) ∷ ‵ (flft (ν ∷ []) full_share) ∷ ‵ (fsep (flent (ν ∷ []) (Held R (length (take n ys)) b o δ)) (Behind R ys b o n)) ∷ Γ) G)
      → Seq K 𝓛 (‵ (cells (mem R) ys b o) ∷ Γ) G
  lends_front t z R ys b o n l g k =
      cuts t R ys b o n $ lends_array t z R (take n ys) b o n (length-take-le n ys l) g (λ ν δ. move t (2 ∷ 3 ∷ []) $ fjoin t $ move t (1 ∷ 2 ∷ 0 ∷ []) $ k ν δ)

  pub unlends_front : K → Soaks G → (R : RattleType) {ν : ℕ} (ys : List R.Denot) (b o n : ℕ) {δ : GName} (zs : List R.Denot) → (length (zs ++ behind n ys) ≡ length ys → Seq K 𝓛 (‵ (cells (mem R) (zs ++ behind n ys) b o) ∷ Γ) G)
      → Seq K 𝓛 (‵ (flft (ν ∷ []) full_share) ∷ ‵ (fsep (flent (ν ∷ []) (Held R (length (take n ys)) b o δ)) (Behind R ys b o n)) ∷ ‵ (fsep (finally R δ zs) (feq ℕ (length zs) (length (take n ys)))) ∷ Γ) G
  unlends_front t z R {ν} ys b o n {δ} zs k =
      move t (1 ∷ []) $ fsplit t $ move t (2 ∷ 0 ∷ 3 ∷ []) $ unlends_array t z R (take n ys) b o zs (λ e.
      rewrite t 1 (λ (m : ℕ). ‵ (cells (mem R) (behind n ys) b (at o (mem R).size m))) (sym e) refl $
      use2 𝓛 (‵ (cells (mem R) (zs ++ behind n ys) b o)) (join_app 𝓛 (mem R) zs (behind n ys) b o) $ k (same_len n ys zs e))

  pub shares_front : K → Soaks G → (R : RattleType) → ((l : Lft) → SharesAsFrom 𝓛 full_share R (shared_of R) l) → (ys : List R.Denot) (b o n : ℕ) → n ≤ length ys → Room R n
      → ((ν : ℕ) → Seq K 𝓛 (‵ ((ShrSlice erased (ν ∷ []) R).own_val (look_ref b o (take n ys)) (slice_val (b, o) n ∷ [])) ∷ ‵ (flft (ν ∷ []) full_share) ∷ ‵ (fsep (flent (ν ∷ []) (parts_f R (take n ys) b o)) (Behind R ys b o n)) ∷ Γ) G)
      → Seq K 𝓛 (‵ (cells (mem R) ys b o) ∷ Γ) G
  shares_front t z R c ys b o n l g k =
      cuts t R ys b o n $ shares_array t z R c (take n ys) b o n (length-take-le n ys l) g (λ ν. move t (2 ∷ 3 ∷ []) $ fjoin t $ move t (1 ∷ 2 ∷ 0 ∷ []) $ k ν)

  pub unshares_front : K → Soaks G → (R : RattleType) {ν : ℕ} (ys : List R.Denot) (b o n : ℕ)
      → Step K 𝓛 (‵ (cells (mem R) ys b o) ∷ Γ) G (‵ (flft (ν ∷ []) full_share) ∷ ‵ (fsep (flent (ν ∷ []) (parts_f R (take n ys) b o)) (Behind R ys b o n)) ∷ Γ) G
  unshares_front t z R {ν} ys b o n = step (λ s.
      move t (1 ∷ []) $ fsplit t $ move t (2 ∷ 0 ∷ []) $ unshares_array t z R (take n ys) b o $
      use2 𝓛 (‵ (cells (mem R) (take n ys ++ behind n ys) b o)) (join_app 𝓛 (mem R) (take n ys) (behind n ys) b o) $
      rewrite t 0 (λ (zs : List R.Denot). ‵ (cells (mem R) zs b o)) (take-append-drop n ys) refl $ s)

-- ---- the array of 80 records
abbrev pub Records : RattleType
Records = Array T.the_row 80

pub records_tells : Tells Records (Is Records) (array_vals rec.vals)
records_tells = Array-Tells T.the_row rec.vals rec.tells 80

count_room : (n : ℕ) → n ≤ 80 → n < 2 ^ 64
count_room n l = omega arith

byte_room : (n : ℕ) → n ≤ 80 → n * 12 < 2 ^ 63
byte_room n l = omega arith

pub room_within : (n : ℕ) → n ≤ 80 → Room T.the_row n
room_within n l = (count_room n l, byte_room n l)

pub front_fits : (ys : List Record) (n : ℕ) → length ys ≡ 80 → n ≤ 80 → n ≤ length ys
front_fits ys n e l = omega arith

module _ {M : Type 1} {𝓤 : Ura M} (𝓛 : Logic 𝓤) where
  pub records_typed : (ys : List Record) (vs : List Val) → Is Records ys vs → Typed Records.mir vs
  records_typed ys vs is = (Array-Lawful 𝓛 T.the_row (LL.lawful T.the_type T'.the_laws 𝓛) 80).typed ys vs is

  pub records_makes : Makes 𝓛 Records (Is Records)
  records_makes = Array-Makes 𝓛 T.the_row (LL.makes T.the_type T'.the_plain 𝓛) 80

-- Steps of `Types/Kit.antt`'s calculus for a walk that has a local array and lends it as a slice.
--     array_opens      [the array's cell, written whole; …]  →  [its elements, side by side; …]
--     array_shuts      the way back
--     array_shuts_is   the same with the array's relation to its machine value in hand, for a walk that
--                      copies the array afterwards
--     repeated_is      `[x; n]` is the array of n times x
--     puts             brings a cell that is shut back home (`Walk.antt`)
--     lends_array      [the elements; …] → [own of a `&ν mut [T]`; ν's token; what comes back later; …], for
--                      a new lifetime ν; n is the array's length
--     unlends_array    [ν's token; what comes back later; what the callee says of the last list zs; …] → [the
--                      elements zs; …]
--     shares_array, unshares_array     the same for a `&ν [T]`, T that can be shared: the list comes back as it
--                      was
-- Assumes `Logic`.
use mathlib.Core.Path.{◌≡◌, refl, sym, subst}
use Prim.Native.Nat.{ℕ, zero, suc}
use mathlib.Core.List.{List, [], ◌∷◌}
use lib.ListN.{length, length-replicate, replicate}
use seplogic.Ra.Ura.{Ura}
use base.Fraction.{full_share}
use mir.Syntax.{erased, ty_array}
use mir.Raw.{raw as raw_ty}
use mir.Val.{Val}
use base.Fml.{Lft, GName, fsep, feq, fat, flft, flent}
use types.Logic.{Logic}
use types.Kit.{Goal, Soaks, Item, ‵, ◌⊛◌, some, later, Seq, Step, step, ◌$◌, move, drop, use1, use2, use3, split, pick, await, rewrite, fsplit, fjoin, fpick, fpack, feq_l, feq_i}
use types.SemTy.{cells, Arr}
use types.Share.{arr_parts}
use types.Tokens.{lft_new, lft_end}
use denote.RattleType.{RattleType}
use denote.Shadow.{shadow}
use denote.Laws.{Is, shows}
use denote.Array.{Array, each, array_val, array_vals, Array-Makes, Array-Tells}
use denote.ArrayMemory.{Single, Array-apart, Array-whole}
use denote.Memory.{cell_raw, raw_all, lone, mem, shares, part_at, part_of, shared_of}
use denote.Slice.{slice_val, MutSlice, ShrSlice, Room, finally}
use denote.Lend.{Held, lends_slice, lends_shr_slice, slice_back}
use denote.Shares.{SharesAsFrom}
use denote.Index.{row, whole_in, whole_out}
use denote.Steps.{only, owned, facts}
use borrow.Rule.Array.Rows.{parts_f}
use borrow.Rule.Array.Share.{shared_back}
use Rattle.hand.proofs.Walk.{Elem, ref, look_ref}

-- n times one element: the relation of `[x; n]`
module _ (R : RattleType) (x : R.Denot) (u : Val) (is : Is R x (u ∷ [])) where
  each_repeated : (n : ℕ) → shadow (each R.Denot R.own_val (replicate n x) (replicate n u))
  each_repeated zero = tt
  each_repeated (suc n) = (is, each_repeated n)

  pub repeated_is : (n : ℕ) → Is (Array R n) (replicate n x) (array_val (replicate n u) ∷ [])
  repeated_is n = (replicate n u, ((refl, length-replicate n x), each_repeated n))

module _ {M : Type 1} {𝓤 : Ura M} {𝓛 : Logic 𝓤} {K : Type 0} {Γ : List (Item 𝓤)} {G : Goal 𝓤 𝓛.H} where
  pub array_opens : K → (E : Elem) → Single E.row.mir → (n : ℕ) (ys : List E.row.Denot) (b o : ℕ) (v : Val) → Is (Array E.row n) ys (v ∷ []) → Step K 𝓛 (‵ (cells (mem E.row) ys b o) ∷ Γ) G (‵ (fat full_share (ty_array (lone E.row.mir) n) b o v) ∷ Γ) G
  unfolding part_of
  array_opens t E one n ys b o v is = step (λ s.
      use1 𝓛 (‵ (fat full_share (raw_ty (ty_array (lone E.row.mir) n)) b o v)) (𝓛.laws.at_raw full_share (ty_array (lone E.row.mir) n) b o v) $
      owned t (Array E.row n) (Is (Array E.row n)) (Array-Makes 𝓛 E.row (E.makes M 𝓤 𝓛) n) ys (v ∷ []) is $ move t (1 ∷ 0 ∷ []) $ fjoin t $
      fpack t (List Val) (λ us. fsep (cell_raw full_share (raw_all (Array E.row n).mir) us b o) ((Array E.row n).own_val ys us)) (v ∷ []) $
      use1 𝓛 (‵ ((arr_parts (shares E.row) n).part full_share ys b o)) (Array-apart 𝓛 E.row full_share one n ys b o) $ fsplit t $ drop t $ use1 𝓛 (‵ (cells (mem E.row) ys b o)) (whole_in 𝓛 E.row ys b o) $ s)

  pub array_shuts_is : K → (E : Elem) (n : ℕ) (ys : List E.row.Denot) (b o : ℕ) → length ys ≡ n
      → (Is (Array E.row n) ys (array_vals E.vals ys) → Seq K 𝓛 (‵ (fat full_share (ty_array (lone E.row.mir) n) b o (only (array_vals E.vals ys))) ∷ Γ) G)
      → Seq K 𝓛 (‵ (cells (mem E.row) ys b o) ∷ Γ) G
  unfolding part_of
  array_shuts_is t E n ys b o e k =
      use1 𝓛 (‵ (row E.row full_share ys b o)) (whole_out 𝓛 E.row ys b o) $ feq_i t ℕ (length ys) n e $ fjoin t $ use1 𝓛 (‵ (part_at (Array E.row n) full_share ys b o)) (Array-whole 𝓛 E.row full_share n ys b o) $
      fpick t (λ vs. fsplit t $ move t (1 ∷ []) $ facts t (Array E.row n) (Is (Array E.row n)) (shows 𝓛 (Array E.row n)) ys vs (λ p.
      rewrite t 0 (λ (us : List Val). ‵ (cell_raw full_share (raw_all (Array E.row n).mir) us b o)) (Array-Tells E.row E.vals E.tells n ys vs p) refl $
      use1 𝓛 (‵ (fat full_share (ty_array (lone E.row.mir) n) b o (only (array_vals E.vals ys)))) (𝓛.laws.raw_at full_share (ty_array (lone E.row.mir) n) b o (only (array_vals E.vals ys))) $
      k (subst (λ (us : List Val). Is (Array E.row n) ys us) (Array-Tells E.row E.vals E.tells n ys vs p) p)))

  pub array_shuts : K → (E : Elem) (n : ℕ) (ys : List E.row.Denot) (b o : ℕ) → length ys ≡ n → Step K 𝓛 (‵ (fat full_share (ty_array (lone E.row.mir) n) b o (only (array_vals E.vals ys))) ∷ Γ) G (‵ (cells (mem E.row) ys b o) ∷ Γ) G
  array_shuts t E n ys b o e = step (λ s. array_shuts_is t E n ys b o e (λ _. s))

  pub lends_array : K → Soaks G → (R : RattleType) (ys : List R.Denot) (b o n : ℕ) → length ys ≡ n → Room R n
      → ((ν : ℕ) (δ : GName) → Seq K 𝓛 (‵ ((MutSlice erased (ν ∷ []) R).own_val (ref b o δ ys) (slice_val (b, o) n ∷ [])) ∷ ‵ (flft (ν ∷ []) full_share) ∷ ‵ (flent (ν ∷ []) (Held R (length ys) b o δ)) ∷ Γ) G)
      → Seq K 𝓛 (‵ (cells (mem R) ys b o) ∷ Γ) G
  lends_array t z R ys b o n e g k = lft_new t z (λ ν. move t (1 ∷ []) $
      use1 𝓛 (later (some (λ (δ : GName). ‵ ((MutSlice erased (ν ∷ []) R).own_val (ref b o δ ys) (slice_val (b, o) (length ys) ∷ [])) ⊛ ‵ (flent (ν ∷ []) (Held R (length ys) b o δ))))) (lends_slice 𝓛 R erased (ν ∷ []) ys b o (subst (Room R) (sym e) g)) $ await t z $ pick t (λ δ. split t $
      rewrite t 0 (λ (m : ℕ). ‵ ((MutSlice erased (ν ∷ []) R).own_val (ref b o δ ys) (slice_val (b, o) m ∷ []))) e refl $ move t (0 ∷ 2 ∷ []) $ k ν δ))

  pub unlends_array : K → Soaks G → (R : RattleType) {ν : ℕ} (ys : List R.Denot) (b o : ℕ) {δ : GName} (zs : List R.Denot) → (length zs ≡ length ys → Seq K 𝓛 (‵ (cells (mem R) zs b o) ∷ Γ) G)
      → Seq K 𝓛 (‵ (flft (ν ∷ []) full_share) ∷ ‵ (flent (ν ∷ []) (Held R (length ys) b o δ)) ∷ ‵ (fsep (finally R δ zs) (feq ℕ (length zs) (length ys))) ∷ Γ) G
  unlends_array t z R {ν} ys b o {δ} zs k =
      lft_end t z $ move t (2 ∷ []) $ fsplit t $ move t (1 ∷ []) $ feq_l t (λ e. move t (1 ∷ 2 ∷ 0 ∷ []) $
      use3 𝓛 (later (‵ ((Arr (mem R) (length ys)).own_at zs b o))) (slice_back 𝓛 R (ν ∷ []) δ zs (length ys) b o) $ await t z $ fsplit t $ drop t $ k e)

  pub shares_array : K → Soaks G → (R : RattleType) → ((l : Lft) → SharesAsFrom 𝓛 full_share R (shared_of R) l) → (ys : List R.Denot) (b o n : ℕ) → length ys ≡ n → Room R n
      → ((ν : ℕ) → Seq K 𝓛 (‵ ((ShrSlice erased (ν ∷ []) R).own_val (look_ref b o ys) (slice_val (b, o) n ∷ [])) ∷ ‵ (flft (ν ∷ []) full_share) ∷ ‵ (flent (ν ∷ []) (parts_f R ys b o)) ∷ Γ) G)
      → Seq K 𝓛 (‵ (cells (mem R) ys b o) ∷ Γ) G
  shares_array t z R c ys b o n e g k = lft_new t z (λ ν. move t (1 ∷ []) $
      use1 𝓛 (‵ (row R full_share ys b o)) (whole_out 𝓛 R ys b o) $ feq_i t ℕ (length ys) (length ys) refl $ fjoin t $
      use2 𝓛 (later ((‵ ((ShrSlice erased (ν ∷ []) R).own_val (look_ref b o ys) (slice_val (b, o) (length ys) ∷ [])) ⊛ ‵ (flent (ν ∷ []) (parts_f R ys b o))) ⊛ ‵ (flft (ν ∷ []) full_share)))
      (lends_shr_slice 𝓛 R erased (ν ∷ []) full_share ys b o (subst (Room R) (sym e) g) (ν ∷ []) (c (ν ∷ [])) ((ν ∷ [], full_share) ∷ []) (λ x m. m) (λ x m. m)) $ await t z $ split t $ split t $
      -- [the slice; what comes back later; the token]
      rewrite t 0 (λ (m : ℕ). ‵ ((ShrSlice erased (ν ∷ []) R).own_val (look_ref b o ys) (slice_val (b, o) m ∷ []))) e refl $ move t (0 ∷ 2 ∷ []) $ k ν)

  pub unshares_array : K → Soaks G → (R : RattleType) {ν : ℕ} (ys : List R.Denot) (b o : ℕ) → Step K 𝓛 (‵ (cells (mem R) ys b o) ∷ Γ) G (‵ (flft (ν ∷ []) full_share) ∷ ‵ (flent (ν ∷ []) (parts_f R ys b o)) ∷ Γ) G
  unshares_array t z R {ν} ys b o = step (λ s. lft_end t z $ use2 𝓛 (later (‵ (cells (mem R) ys b o))) (shared_back 𝓛 R (ν ∷ []) b ys o) $ await t z $ s)

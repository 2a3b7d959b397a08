-- Steps of `Types/Kit.antt`'s calculus for a walk over one struct that is lent by `&mut` or by `&`: it is
-- taken out, read or written whole, and given back; and for a walk that lends a struct of its own to a call.
-- `Walk.antt` has the same for one element of a slice, and `ref` and `Elem`, which these steps share with it.
--     LentHole         what is left of an opened `&mut S` while the struct is out
--     ReadHole         what is left of an opened `&S` while the struct is looked at
--     takes_lent       [own of a `&κ mut S`; κ's token; …] → [the struct's cell, at the machine values of
--                      what lies there; what else was opened; …]
--     gives_lent       the way back, at another value of the struct and the machine values that now lie there
--     takes_read       the same of a `&κ S`, with a share of the cell
--     gives_read       the way back
--     lends_struct     [the cell of a local struct; …] → [own of a `&ν mut S` on it; ν's token; what comes
--                      back later; …], for a new lifetime ν
--     unlends_struct   [ν's token; what comes back later; what the callee says of the last value y; …] → [the
--                      cell, at the machine value of y; …]; `puts` (`Walk.antt`) brings it home. Both ask
--                      that the struct is one machine value, of which the proof is `refl`
-- The two entries that a `takes` puts in front stand where the two that it takes stood, so no other entry
-- moves; a call may stand between the two steps. Assumes `Logic`.
use mathlib.Core.Path.{refl, ap, subst}
use Prim.Native.Nat.{ℕ}
use mathlib.Core.List.{List, [], ◌∷◌}
use seplogic.Ra.Ura.{Ura}
use base.Fraction.{full_share}
use mir.Syntax.{erased}
use mir.Val.{Val, vptr}
use base.Fml.{Lft, GName, Share, Fml, fsep, fat, flft, flent, fobs, fauth, fres, fobor}
use types.Logic.{Logic}
use types.Kit.{Goal, Soaks, Item, ‵, ◌⊛◌, some, later, Seq, Step, step, ◌$◌, move, drop, use1, use2, use3, split, join, pick, await, rewrite, fsplit, fsplit3, fjoin, fjoin3, feq_i}
use types.SemTy.{Body}
use types.Tokens.{lft_new, lft_end}
use denote.Laws.{Is, shows}
use denote.Memory.{cell_at, part_at, hidden_shr, lone, mem}
use denote.Ref.{MutRef, ShrRef}
use denote.Lend.{lends_ref, ref_back}
use denote.Opens.{Shut}
use denote.Steps.{opens, closes, looks, shuts, only, owned, peeks, facts}
use denote.Struct.Steps.{spelt}
use borrow.Table.OneValue.{One, part_in, part_out}
use Rattle.hand.proofs.Walk.{Elem, ref, look_ref}

module _ (E : Elem) (κ : Lft) (q : Share) (γ : GName) (x : E.row.Denot) (b o : ℕ) where
  abbrev pub LentHole : Fml
  LentHole = fsep (fobor κ q (Body (mem E.row) b o γ)) (fsep (fobs γ (E.row.coded.code x)) (fauth γ (E.row.coded.code x)))

module _ {M : Type 1} {𝓤 : Ura M} (𝓛 : Logic 𝓤) (E : Elem) (κ : Lft) (q : Share) (x : E.row.Denot) (b o : ℕ) where
  abbrev pub ReadHole : Share → Item 𝓤
  ReadHole q' = ‵ (E.row.own_val x (E.vals x)) ⊛ (Shut 𝓛 κ q (part_at E.row q' x b o) ⊛ ‵ (hidden_shr E.row κ x b o))

module _ {M : Type 1} {𝓤 : Ura M} {𝓛 : Logic 𝓤} {K : Type 0} {Γ : List (Item 𝓤)} {G : Goal 𝓤 𝓛.H} where
  pub takes_lent : K → Soaks G → (E : Elem) {κ : Lft} {q : Share} {γ : GName} (x : E.row.Denot) (b o : ℕ)
      → (Is E.row x (E.vals x) → Seq K 𝓛 (‵ (cell_at full_share E.row.mir (E.vals x) b o) ∷ ‵ (LentHole E κ q γ x b o) ∷ Γ) G)
      → Seq K 𝓛 (‵ ((MutRef erased κ E.row).own_val (ref b o γ x) (vptr b o ∷ [])) ∷ ‵ (flft κ q) ∷ Γ) G
  takes_lent t z E x b o k =
      fsplit3 t $ drop t $ opens t z E.row {h = x} b o (λ vs.
      spelt t E.row (Is E.row) (shows 𝓛 E.row) E.vals E.tells full_share x vs b o $
      move t (1 ∷ []) $ peeks t E.row (Is E.row) (shows 𝓛 E.row) x (E.vals x) (λ g. drop t $
      -- [the cell; the open borrow; obs; auth]
      move t (2 ∷ 3 ∷ []) $ fjoin t $ move t (2 ∷ 0 ∷ []) $ fjoin t $ move t (1 ∷ 0 ∷ []) $ k g))

  pub gives_lent : K → Soaks G → (E : Elem) {κ : Lft} {q : Share} {γ : GName} (x : E.row.Denot) (b o : ℕ) (y : E.row.Denot) (vs : List Val) → Is E.row y vs
      → Step K 𝓛 (‵ ((MutRef erased κ E.row).own_val (ref b o γ y) (vptr b o ∷ [])) ∷ ‵ (flft κ q) ∷ Γ) G
      (‵ (cell_at full_share E.row.mir vs b o) ∷ ‵ (LentHole E κ q γ x b o) ∷ Γ) G
  gives_lent t z E x b o y vs is = step (λ s.
      move t (1 ∷ []) $ fsplit t $ move t (1 ∷ []) $ fsplit t $
      -- [obs; auth; the open borrow; the cell]
      owned t E.row (Is E.row) (E.makes M 𝓤 𝓛) y vs is $ move t (4 ∷ 0 ∷ 3 ∷ 1 ∷ 2 ∷ []) $ closes t z E.row y vs b o $
      feq_i t (List Val) (vptr b o ∷ []) (vptr b o ∷ []) refl $ fjoin3 t $ s)

  pub takes_read : K → Soaks G → (E : Elem) {κ : Lft} {q : Share} (x : E.row.Denot) (b o : ℕ)
      → ((q' : Share) → Is E.row x (E.vals x) → Seq K 𝓛 (‵ (cell_at q' E.row.mir (E.vals x) b o) ∷ ReadHole 𝓛 E κ q x b o q' ∷ Γ) G)
      → Seq K 𝓛 (‵ ((ShrRef erased κ E.row).own_val (look_ref b o x) (vptr b o ∷ [])) ∷ ‵ (flft κ q) ∷ Γ) G
  takes_read t z E x b o k =
      fsplit t $ drop t $ looks t z E.row (E.copies M 𝓤 𝓛).opens x b o (λ q' vs.
      spelt t E.row (Is E.row) (shows 𝓛 E.row) E.vals E.tells q' x vs b o $
      move t (1 ∷ []) $ peeks t E.row (Is E.row) (shows 𝓛 E.row) x (E.vals x) (λ g.
      -- [what the struct owns; the cell; what shuts it; what it is held by]
      move t (2 ∷ 3 ∷ []) $ join t $ move t (1 ∷ 0 ∷ []) $ join t $ move t (1 ∷ 0 ∷ []) $ k q' g))

  pub gives_read : K → Soaks G → (E : Elem) {κ : Lft} {q : Share} (x : E.row.Denot) (b o : ℕ) (q' : Share)
      → Step K 𝓛 (‵ ((ShrRef erased κ E.row).own_val (look_ref b o x) (vptr b o ∷ [])) ∷ ‵ (flft κ q) ∷ Γ) G
      (‵ (cell_at q' E.row.mir (E.vals x) b o) ∷ ReadHole 𝓛 E κ q x b o q' ∷ Γ) G
  gives_read t z E x b o q' = step (λ s.
      move t (1 ∷ []) $ split t $ move t (1 ∷ []) $ split t $
      -- [what shuts it; what it is held by; what the struct owns; the cell]
      move t (3 ∷ 2 ∷ 0 ∷ []) $ shuts t z E.row q' x (E.vals x) b o $
      feq_i t (List Val) (vptr b o ∷ []) (vptr b o ∷ []) refl $ move t (0 ∷ 2 ∷ []) $ fjoin t $ s)

  pub lends_struct : K → Soaks G → (E : Elem) → One E.row → (x : E.row.Denot) (b o : ℕ) (v : Val) → Is E.row x (v ∷ [])
      → ((ν : ℕ) (δ : GName) → Seq K 𝓛 (‵ ((MutRef erased (ν ∷ []) E.row).own_val (ref b o δ x) (vptr b o ∷ [])) ∷ ‵ (flft (ν ∷ []) full_share) ∷ ‵ (flent (ν ∷ []) (Body (mem E.row) b o δ)) ∷ Γ) G)
      → Seq K 𝓛 (‵ (fat full_share (lone E.row.mir) b o v) ∷ Γ) G
  lends_struct t z E one x b o v is k =
      owned t E.row (Is E.row) (E.makes M 𝓤 𝓛) x (v ∷ []) is $ move t (1 ∷ 0 ∷ []) $
      use2 𝓛 (‵ (part_at E.row full_share x b o)) (part_in 𝓛 E.row one full_share x b o v) $ lft_new t z (λ ν. move t (1 ∷ []) $
      use1 𝓛 (later (some (λ (δ : GName). ‵ ((MutRef erased (ν ∷ []) E.row).own_val (ref b o δ x) (vptr b o ∷ [])) ⊛ ‵ (flent (ν ∷ []) (Body (mem E.row) b o δ))))) (lends_ref 𝓛 E.row erased (ν ∷ []) x b o) $
      await t z $ pick t (λ δ. split t $ move t (0 ∷ 2 ∷ []) $ k ν δ))

  pub unlends_struct : K → Soaks G → (E : Elem) → One E.row → {ν : ℕ} (b o : ℕ) {δ : GName} (y : E.row.Denot)
      → (Is E.row y (E.vals y) → Seq K 𝓛 (‵ (fat full_share (lone E.row.mir) b o (only (E.vals y))) ∷ Γ) G)
      → Seq K 𝓛 (‵ (flft (ν ∷ []) full_share) ∷ ‵ (flent (ν ∷ []) (Body (mem E.row) b o δ)) ∷ ‵ (fres δ (E.row.coded.code y)) ∷ Γ) G
  unlends_struct t z E one {ν} b o {δ} y k =
      lft_end t z $ use3 𝓛 (later (‵ (part_at E.row full_share y b o))) (ref_back 𝓛 E.row (ν ∷ []) δ y b o) $ await t z $
      use1 𝓛 (some (λ (v : Val). ‵ (fat full_share (lone E.row.mir) b o v) ⊛ ‵ (E.row.own_val y (v ∷ [])))) (part_out 𝓛 E.row one full_share y b o) $ pick t (λ v. split t $
      move t (1 ∷ []) $ facts t E.row (Is E.row) (shows 𝓛 E.row) y (v ∷ []) (λ is.
      rewrite t 0 (λ (u : Val). ‵ (fat full_share (lone E.row.mir) b o u)) (ap only (E.tells y (v ∷ []) is)) refl $ k (subst (Is E.row y) (E.tells y (v ∷ []) is) is)))

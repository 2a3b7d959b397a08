-- Steps of `Types/Kit.antt`'s calculus for a walk that calls functions and lends them its own `&mut` slices.
--     lends_mut        [own of a `&κ mut [T]`; κ's token; …] → [own of a `&ν mut [T]` on the same list; ν's
--                      token; what comes back later; …], for a new lifetime ν: it is lent again, `&mut *s`
--     unlends_mut      [ν's token; what comes back later; what the callee says of the last list zs; …] → [own
--                      of the `&κ mut [T]` at zs; κ's token; …]
--     shares_mut, unshares_mut     the same for `&*s`, of a T that is Copy: a `&ν [T]`, and the list comes back
--     hands_shr        [own of a `&[T]`; …] → [the same; the same; …]: a `&` is Copy, so it is handed on at
--                      its own lifetime, with its token, and the other copy is kept
--     adds             [X; P; …] → [P, X; …]: what a parameter owns, or a token, is put before those that
--                      follow it
--     parts            [P, X; …]  →  [X; P; …], the way back after the call
--     passes           a number is put before them
--     tok_f             the tokens of a callee's lifetimes, as one formula
--     calls_spec       a call of a function that meets its contract: [the tokens; what the parameters own; …]
--                      → [the tokens; what is said of the last values; …], with what it ensures and the
--                      result's relation in hand. The operands are read where the first two entries are one,
--                      so each position is one less there
-- Assumes `Logic`.
use mathlib.Core.Path.{◌≡◌, refl, sym, ◌∙◌, ap, subst}
use Prim.Native.Nat.{ℕ, zero, suc, ◌<◌, ◌^◌}
use mathlib.Core.List.{List, [], ◌∷◌}
use lib.ListN.{length}
use seplogic.Ra.Ura.{Ura}
use base.Fraction.{full_share}
use mir.Syntax.{erased, Width, Callee, Place, Opd as Operand, Body, seq, call}
use mir.Val.{Val, vint, bits}
use base.Logic.{ent, sep, emp, via, id⊢, mono_r, emp∗, comm∗, mono_l}
use base.Fml.{Lft, GName, Share, Fml, ftrue, fsep, feq, flft, flent, fobs, fauth, fobor}
use prog.Wp.{Env, Calls, Loops}
use types.Logic.{Logic, sem}
use sound.WpLaws.{FmC}
use contract.Monad.{fact}
use contract.Lifetimes.{Lfts, Shares, AllOutlive, toks}
use types.Kit.{Goal, Soaks, Item, ‵, raw, ◌⊛◌, some, later, Post, runs, lands, Seq, Step, step, ◌$◌, move, drop, use1, use2, use3, split, join, pick, await, rewrite, fsplit, fjoin}
use types.Run.{Opds}
use types.SemTy.{cells}
use types.Tokens.{lft_new, lft_end}
use denote.RattleType.{RattleType, RowLaws, owns, flat}
use denote.Shadow.{pure_l, pure_i}
use denote.Laws.{Is, shows}
use denote.Memory.{mem, shared_of}
use denote.Slice.{slice_val, MutSlice, ShrSlice, heres, Room, room, finally, shr_slice_at, mut_slice_at, coded_holeys, shr_slice_copy}
use denote.Shares.{SharesAsFrom}
use denote.Lend.{Held}
use denote.Index.{row, whole_in, whole_out, opens_slice, closes_slice}
use denote.Signature.{type_at, types_at}
use denote.Steps.{heard, facts, owned}
use denote.Plain.{UInt, uint_Makes}
use denote.Triple.Call.{calls_from}
use denote.Triple.Clauses.{Clauses, Ended, Lasts, at_exit, lasts, closing}
use denote.Triple.Entry.{Args, Vals, Res, on_entry}
use denote.Triple.Spec.{triple_of}
use denote.Triple.Statement.{Triple}
use borrow.Table.Owned as O
use borrow.Rule.Array.Share.{share_cells}
use borrow.Rule.Slice.Reshare.{kept_s, sl_reshare_as, sl_reshare_back}
use Rattle.hand.proofs.Walk.{ref, look_ref}
use Rattle.hand.proofs.Arrays.{lends_array, unlends_array}

module _ (R : RattleType) (κ : Lft) (q : Share) (γ : GName) (ν : ℕ) (ys : List R.Denot) (b o : ℕ) (vs : List Val) where
  abbrev pub LentOut : GName → Fml
  LentOut δ = fsep (flent (ν ∷ []) (Held R (length ys) b o δ)) (fsep (fobor κ q (Held R (length ys) b o γ)) (fsep (fobs γ ((coded_holeys R).code (heres R ys))) (fsep (fauth γ ((coded_holeys R).code (heres R ys))) (mut_slice_at R (ref b o γ ys) vs))))

module _ {M : Type 1} {𝓤 : Ura M} (𝓛 : Logic 𝓤) (R : RattleType) (κ : Lft) (q : Share) (γ : GName) (ν : ℕ) (ys : List R.Denot) (b o : ℕ) (vs : List Val) where
  abbrev pub SharedOut : Item 𝓤
  SharedOut = kept_s 𝓛 R κ q (ν ∷ []) γ ys b o ⊛ ‵ (mut_slice_at R (ref b o γ ys) vs)

module _ {M : Type 1} {𝓤 : Ura M} {𝓛 : Logic 𝓤} {K : Type 0} {Γ : List (Item 𝓤)} {G : Goal 𝓤 𝓛.H} where
  pub lends_mut : K → Soaks G → (R : RattleType) {κ : Lft} {q : Share} {γ : GName} (ys : List R.Denot) (b o : ℕ) {vs : List Val}
      → ((ν : ℕ) (δ : GName) → Seq K 𝓛 (‵ ((MutSlice erased (ν ∷ []) R).own_val (ref b o δ ys) vs) ∷ ‵ (flft (ν ∷ []) full_share) ∷ ‵ (LentOut R κ q γ ν ys b o vs δ) ∷ Γ) G)
      → Seq K 𝓛 (‵ ((MutSlice erased κ R).own_val (ref b o γ ys) vs) ∷ ‵ (flft κ q) ∷ Γ) G
  lends_mut t z R {κ} {q} {γ} ys b o {vs} k =
      fsplit t $ pure_l t (mut_slice_at R (ref b o γ ys) vs) (λ p. fsplit t $ opens_slice t z R ys b o $
      use1 𝓛 (‵ (cells (mem R) ys b o)) (whole_in 𝓛 R ys b o) $ lends_array t z R ys b o (length ys) refl p.1 (λ ν δ.
      rewrite t 0 (λ (us : List Val). ‵ ((MutSlice erased (ν ∷ []) R).own_val (ref b o δ ys) us)) (sym p.0) refl $
      -- [the new slice; ν's token; the lender's part at ν; the open borrow at κ; obs; auth]
      pure_i t (mut_slice_at R (ref b o γ ys) vs) (tt, (tt, tt)) p $ move t (6 ∷ 0 ∷ []) $ fjoin t $ move t (5 ∷ 0 ∷ []) $ fjoin t $ move t (4 ∷ 0 ∷ []) $ fjoin t $ move t (3 ∷ 0 ∷ []) $ fjoin t $ move t (1 ∷ 2 ∷ 0 ∷ []) $ k ν δ))

  pub unlends_mut : K → Soaks G → (R : RattleType) {κ : Lft} {q : Share} {γ : GName} {ν : ℕ} (ys : List R.Denot) (b o : ℕ) {vs : List Val} {δ : GName} (zs : List R.Denot)
      → (length zs ≡ length ys → Seq K 𝓛 (‵ ((MutSlice erased κ R).own_val (ref b o γ zs) vs) ∷ ‵ (flft κ q) ∷ Γ) G)
      → Seq K 𝓛 (‵ (flft (ν ∷ []) full_share) ∷ ‵ (LentOut R κ q γ ν ys b o vs δ) ∷ ‵ (fsep (finally R δ zs) (feq ℕ (length zs) (length ys))) ∷ Γ) G
  unlends_mut t z R {κ} {q} {γ} {ν} ys b o {vs} {δ} zs k =
      move t (1 ∷ []) $ fsplit t $ move t (2 ∷ 0 ∷ 3 ∷ []) $ unlends_array t z R ys b o zs (λ e. use1 𝓛 (‵ (row R full_share zs b o)) (whole_out 𝓛 R zs b o) $
      move t (1 ∷ []) $ fsplit t $ move t (1 ∷ []) $ fsplit t $ move t (1 ∷ []) $ fsplit t $ move t (1 ∷ []) $ pure_l t (mut_slice_at R (ref b o γ ys) vs) (λ p.
      -- [auth; obs; the open borrow; the row]
      move t (3 ∷ 2 ∷ 1 ∷ []) $ closes_slice t z R ys zs e b o $
      fjoin t $ pure_i t (mut_slice_at R (ref b o γ zs) vs) (tt, (tt, tt)) (p.0 ∙ ap (λ (m : ℕ). slice_val (b, o) m ∷ []) (sym e), subst (Room R) (sym e) p.1) $ fjoin t $ k e))

  pub shares_mut : K → Soaks G → (R : RattleType) → RowLaws R → ((l : Lft) → SharesAsFrom 𝓛 full_share R (shared_of R) l) → {κ : Lft} {q : Share} {γ : GName} (ys : List R.Denot) (b o : ℕ) {vs : List Val}
      → ((ν : ℕ) → Seq K 𝓛 (‵ ((ShrSlice erased (ν ∷ []) R).own_val (look_ref b o ys) vs) ∷ ‵ (flft (ν ∷ []) full_share) ∷ SharedOut 𝓛 R κ q γ ν ys b o vs ∷ Γ) G)
      → Seq K 𝓛 (‵ ((MutSlice erased κ R).own_val (ref b o γ ys) vs) ∷ ‵ (flft κ q) ∷ Γ) G
  shares_mut t z R laws c {κ} {q} {γ} ys b o {vs} k =
      lft_new t z (λ ν. move t (1 ∷ 2 ∷ 0 ∷ []) $ fsplit t $ pure_l t (mut_slice_at R (ref b o γ ys) vs) (λ p. pure_i t (room R (length ys)) (tt, tt) p.1 $ fjoin t $
      use3 𝓛 (later (‵ ((O.ShrSlice erased (ν ∷ []) R).own_val (look_ref b o ys)) ⊛ (kept_s 𝓛 R κ q (ν ∷ []) γ ys b o ⊛ ‵ (flft (ν ∷ []) full_share))))
      (sl_reshare_as 𝓛 R κ q (ν ∷ []) b o γ (𝓛.A.lft (ν ∷ []) full_share) (λ zs room n. share_cells 𝓛 R (ν ∷ []) b laws (ν ∷ []) (c (ν ∷ [])) ((ν ∷ [], full_share) ∷ []) (λ x m. m) (λ x m. m) zs o room n) ys) $ await t z $ split t $ move t (1 ∷ []) $ split t $ move t (2 ∷ []) $
      fsplit t $ drop t $ pure_i t (shr_slice_at R (look_ref b o ys) vs) (tt, (tt, tt)) p $ fjoin t $
      -- [the new slice; what is kept; ν's token]
      pure_i t (mut_slice_at R (ref b o γ ys) vs) (tt, (tt, tt)) p $ move t (2 ∷ 0 ∷ []) $ join t $ move t (1 ∷ 2 ∷ 0 ∷ []) $ k ν))

  pub unshares_mut : K → Soaks G → (R : RattleType) {κ : Lft} {q : Share} {γ : GName} {ν : ℕ} (ys : List R.Denot) (b o : ℕ) {vs : List Val}
      → Step K 𝓛 (‵ ((MutSlice erased κ R).own_val (ref b o γ ys) vs) ∷ ‵ (flft κ q) ∷ Γ) G (‵ (flft (ν ∷ []) full_share) ∷ SharedOut 𝓛 R κ q γ ν ys b o vs ∷ Γ) G
  unshares_mut t z R {κ} {q} {γ} {ν} ys b o {vs} = step (λ s.
      lft_end t z $ move t (1 ∷ []) $ split t $ move t (1 ∷ []) $ pure_l t (mut_slice_at R (ref b o γ ys) vs) (λ p. move t (1 ∷ 0 ∷ []) $
      use2 𝓛 (later (‵ ((O.MutSlice erased κ R).own_val (ref b o γ ys)) ⊛ ‵ (flft κ q))) (sl_reshare_back 𝓛 R κ q (ν ∷ []) b o γ ys) $ await t z $ split t $
      fsplit t $ drop t $ pure_i t (mut_slice_at R (ref b o γ ys) vs) (tt, (tt, tt)) p $ fjoin t $ s))

  pub hands_shr : K → (R : RattleType) → RowLaws R → (κ : Lft) (ys : List R.Denot) (b o : ℕ) {vs : List Val}
      → Step K 𝓛 (‵ ((ShrSlice erased κ R).own_val (look_ref b o ys) vs) ∷ ‵ ((ShrSlice erased κ R).own_val (look_ref b o ys) vs) ∷ Γ) G (‵ ((ShrSlice erased κ R).own_val (look_ref b o ys) vs) ∷ Γ) G
  hands_shr t R laws κ ys b o {vs} = step (λ s.
      use1 𝓛 (‵ ((ShrSlice erased κ R).own_val (look_ref b o ys) vs) ⊛ ‵ ((ShrSlice erased κ R).own_val (look_ref b o ys) vs)) ((shr_slice_copy 𝓛 erased κ R laws).twice (look_ref b o ys) vs) $ split t $ s)

module _ {M : Type 1} {𝓤 : Ura M} {𝓛 : Logic 𝓤} {K : Type 0} {Γ : List (Item 𝓤)} {G : Goal 𝓤 𝓛.H} {X : Fml} where
  pub adds : K → {P : Fml} → Step K 𝓛 (‵ (fsep P X) ∷ Γ) G (‵ X ∷ ‵ P ∷ Γ) G
  adds t = step (λ s. move t (1 ∷ 0 ∷ []) $ fjoin t $ s)

  pub parts : K → {P : Fml} → Step K 𝓛 (‵ X ∷ ‵ P ∷ Γ) G (‵ (fsep P X) ∷ Γ) G
  parts t = step (λ s. fsplit t $ move t (1 ∷ []) $ s)

  pub passes : K → (w : Width) (n : ℕ) → n < 2 ^ bits w → Step K 𝓛 (‵ (fsep ((UInt w).own_val n (vint w n ∷ [])) X) ∷ Γ) G (‵ X ∷ Γ) G
  passes t w n g = step (λ s. owned t (UInt w) (Is (UInt w)) (uint_Makes 𝓛 w) n (vint w n ∷ []) (refl, g) $ fjoin t $ s)

abbrev pub tok_f : (n : ℕ) → Lfts n → Shares n → Fml
tok_f zero κs qs = ftrue
tok_f (suc n) κs qs = fsep (flft κs.0 qs.0) (tok_f n κs.1 qs.1)

module _ {M : Type 1} {𝓤 : Ura M} (𝓛 : Logic 𝓤) where
  open 𝓛 use {A}

  tok_in : (n : ℕ) (κs : Lfts n) (qs : Shares n) → ent 𝓤 (sem 𝓛 (tok_f n κs qs)) (toks 𝓛 n κs qs)
  tok_in zero κs qs = id⊢ 𝓤 (emp 𝓤)
  tok_in (suc n) κs qs = mono_r 𝓤 (A.lft κs.0 qs.0) (tok_in n κs.1 qs.1)

  tok_out : (n : ℕ) (κs : Lfts n) (qs : Shares n) → ent 𝓤 (toks 𝓛 n κs qs) (sem 𝓛 (tok_f n κs qs))
  tok_out zero κs qs = id⊢ 𝓤 (emp 𝓤)
  tok_out (suc n) κs qs = mono_r 𝓤 (A.lft κs.0 qs.0) (tok_out n κs.1 qs.1)

module _ {M : Type 1} {𝓤 : Ura M} {𝓛 : Logic 𝓤} {K : Type 0} {Γ : List (Item 𝓤)} {E : Env 𝓤 𝓛.H} {C : Calls 𝓤 𝓛.H} {Λ : Loops 𝓤 𝓛.H} {f : Callee} {xs : List Operand} {rest : Body} {d : Place} {p : Post 𝓤 𝓛.H} where
  open 𝓛 use {H}

  pub calls_spec : K → FmC 𝓤 H 𝓛.laws C → (T : Ended) (c : Clauses 𝓤 T) → Triple 𝓤 (C f) (triple_of 𝓛 T.signature (closing 𝓛 T c))
      → (κs : Lfts T.signature.lifetimes) (qs : Shares T.signature.lifetimes) (bounds : AllOutlive T.signature.lifetimes T.signature.outlives κs) (a : Args T.signature κs) (vss : Vals T.signature κs) (g : (c κs a).ghost)
      → ent 𝓤 (emp 𝓤) ((c κs a).requires g)
      → (ψ : Res T.signature κs → Lasts T κs a → Type 0) → ((r : Res T.signature κs) (ws : Lasts T κs a) → ent 𝓤 ((c κs a).ensures g r (at_exit T κs a ws)) (fact 𝓤 (ψ r ws)))
      → Opds K 𝓛 ((‵ (tok_f T.signature.lifetimes κs qs) ⊛ ‵ (owns (types_at T.signature.params κs) a vss)) ∷ Γ) E xs (flat (types_at T.signature.params κs) vss)
      → ((v : Val) (r : Res T.signature κs) (ws : Lasts T κs a) → ψ r ws → Is (type_at T.signature.result κs) r (v ∷ []) → Seq K 𝓛 (‵ (tok_f T.signature.lifetimes κs qs) ∷ ‵ (lasts T κs a ws) ∷ Γ) (lands C Λ E d v rest p))
      → Seq K 𝓛 (‵ (tok_f T.signature.lifetimes κs qs) ∷ ‵ (owns (types_at T.signature.params κs) a vss) ∷ Γ) (runs C Λ E (seq (call f xs d) rest) p)
  calls_spec t fm T c known κs qs bounds a vss g asks ψ tells os k =
      let S = T.signature in
      let n = S.lifetimes in
      join t $ calls_from t fm (‵ (tok_f n κs qs) ⊛ ‵ (owns (types_at S.params κs) a vss)) (flat (types_at S.params κs) vss) ((triple_of 𝓛 S (closing 𝓛 T c)).post ((κs, qs, bounds, a, vss), g))
      (via 𝓤 ((triple_of 𝓛 S (closing 𝓛 T c)).pre ((κs, qs, bounds, a, vss), g))
      (via 𝓤 (on_entry 𝓛 S κs qs a vss) (mono_l 𝓤 (sem 𝓛 (owns (types_at S.params κs) a vss)) (tok_in 𝓛 n κs qs))
      (via 𝓤 (sep 𝓤 (emp 𝓤) (on_entry 𝓛 S κs qs a vss)) (emp∗ 𝓤 _) (via 𝓤 (sep 𝓤 ((c κs a).requires g) (on_entry 𝓛 S κs qs a vss)) (mono_l 𝓤 (on_entry 𝓛 S κs qs a vss) asks) (comm∗ 𝓤 ((c κs a).requires g) (on_entry 𝓛 S κs qs a vss)))))
      (known ((κs, qs, bounds, a, vss), g))) os (λ v.
      use1 𝓛 (later (some (λ (r : Res S κs). (raw (toks 𝓛 n κs qs) ⊛ ‵ ((type_at S.result κs).own_val r (v ∷ []))) ⊛ some (λ (ws : Lasts T κs a). ‵ (lasts T κs a ws) ⊛ raw ((c κs a).ensures g r (at_exit T κs a ws)))))) (id⊢ 𝓤 _) $ await t tt $ pick t (λ r.
      split t $ move t (1 ∷ []) $ pick t (λ ws. split t $ move t (1 ∷ []) $ use1 𝓛 (raw (fact 𝓤 (ψ r ws))) (tells r ws) $ heard t (ψ r ws) (λ e.
      -- [the last values; the tokens and the result]
      move t (1 ∷ []) $ split t $ move t (1 ∷ []) $ facts t (type_at S.result κs) (Is (type_at S.result κs)) (shows 𝓛 (type_at S.result κs)) r (v ∷ []) (λ is.
      use1 𝓛 (‵ (tok_f n κs qs)) (tok_out 𝓛 n κs qs) $ k v r ws e is)))))

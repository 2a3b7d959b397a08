-- Steps of `Types/Kit.antt`'s calculus for walks over slices of any element type, so that a walk keeps each
-- reference whole, beside its token, and takes one element out for one access.
--     Elem             an element type with the laws that the steps ask: its row, how its machine values are
--                      spelled, and that it is Copy and plain
--     num w            the unsigned integer of w bits
--     struct_of T      a struct that a crate declares, from what the check writes of it: `the_type`,
--                      `the_laws`, `the_copy`, `the_plain`
--     ref b o γ x      the value of a `&mut`: pointer, ghost name, what lies behind it
--     look_ref b o x   the value of a `&`, which has no ghost name
--     takes_shr        [own of a `&κ [T]`; κ's token; …] → [a share of element i's cell, at the address that
--                      MIR computes; what else was opened; …]
--     gives_shr        the way back
--     takes_mut        the same of a `&κ mut [T]`, with the whole cell
--     gives_mut        the way back, at another value of the element: the list is then `set ys i y`
--     frees_all        the function's locals are freed, all at once, once `returns` has read the result: the
--                      first k entries are kept, and the others are the locals, as `homes` has them
--     envOf, homes     the environment of a function's locals at the addresses ls, and the locals' entries of
--                      the context, the last local first: `some v` for a local that holds v, `none` for room.
--                      Of n locals local k stands at 2 * (n - 1 - k) in it
--     counted          a loop that counts i from 0 to n, over an invariant that is a function of i: a turn at
--                      each i < n, and the turn that leaves at n
--     counted_with     the same with a fact φ i in hand at each i
--     puts             the first entry is put n places further back: a cell comes home to stand right before
--                      what lets it die
-- The two entries that a `takes` puts in front stand where the two that it takes stood, so no other entry
-- moves. Assumes `Logic`.
use mathlib.Core.Path.{◌≡◌, refl, sym, ◌∙◌, ap, subst}
use Prim.Native.Nat.{ℕ, zero, suc, ◌+◌, ◌*◌, ◌<◌}
use native.Mathlib.Nat.{add-zero, zero-add}
use native.Mathlib.Omega.{arith}
use mathlib.Core.Option.{Option, some, none}
use mathlib.Core.List.{List, [], ◌∷◌, ◌++◌}
use lib.ListN.{length, get_or, set, take, length-set}
use seplogic.Ra.Ura.{Ura}
use base.Fraction.{full_share}
use mir.Syntax.{erased, Width, Ty, Body, Local, local, loop}
use mir.Val.{Val}
use base.Logic.{SProp, ent, sep, emp, never, guard, id⊢, via, comm∗, assoc∗, assoc', mono_l, mono_r, fst∗, snd∗, emp∗, never_e, guard_i, guard_e}
use base.Fml.{Lft, GName, Share, Fml, fsep, fat, froom, fdies, flft, fobs, fauth, fobor, fhide}
use prog.Wp.{Heap, Out, Env, Wp, Tables, after_turn, release}
use types.Logic.{Logic}
use sound.Loop.{unroll}
use sound.WpLaws.{Wp-mono, after_turn_mono}
use types.Kit.{Goal, Soaks, Item, ‵, ◌⊛◌, mean, ⋆, push, pop, ⊢++, sel⊢, aim, Seq, Step, step, frees, ◌$◌, move, drop, rewrite, split, join, fsplit, fjoin}
use denote.RattleType.{RattleType}
use denote.Shadow.{pure_l, pure_i}
use denote.Laws.{Is, Tells, Makes, shows}
use denote.Copied.{Copied, uint_Copied}
use denote.Opens.{Shut}
use denote.Memory.{cell_at, mem, shares}
use denote.Plain.{UInt, uint_vals, uint_Tells, uint_Makes}
use denote.Ref.{Bor, MutBor}
use denote.Slice.{slice_val, MutSlice, ShrSlice, heres, Room, mut_slice_at, shr_slice_at, coded_holeys, elements_shared}
use denote.Lend.{Held}
use denote.Index.{place_is, row, others, elem_out, elem_back, elem_put, opens_slice, closes_slice, looks_slice, shuts_slice}
use denote.Steps.{owned}
use denote.Struct.Struct.{Plains}
use denote.Struct.Declared.{Declared, fields, row as row_of}
use denote.Struct.Laws as LL

pub record Elem : Type 2 where
  pub row : RattleType
  pub vals : row.Denot → List Val
  pub tells : Tells row (Is row) vals
  pub copies : (M : Type 1) (𝓤 : Ura M) (𝓛 : Logic 𝓤) → Copied 𝓛 row
  pub makes : (M : Type 1) (𝓤 : Ura M) (𝓛 : Logic 𝓤) → Makes 𝓛 row (Is row)

abbrev pub num : Width → Elem
num w = record { row = UInt w; vals = uint_vals w; tells = uint_Tells w; copies = λ M 𝓤 𝓛. uint_Copied 𝓛 w; makes = λ M 𝓤 𝓛. uint_Makes 𝓛 w }

abbrev pub struct_of : (T : Declared) → LL.Laws T → LL.Copyables T.parts → Plains (fields T) → Elem
struct_of T laws copied plain = record { row = row_of T; vals = LL.vals T laws; tells = LL.tells T laws; copies = λ M 𝓤 𝓛. LL.copied T copied 𝓛; makes = λ M 𝓤 𝓛. LL.makes T plain 𝓛 }

abbrev pub ref : {X : Type 0} → ℕ → ℕ → GName → X → MutBor X
ref b o γ x = record { ref_ptr = (b, o); ghost_name = γ; now = x }

abbrev pub look_ref : {X : Type 0} → ℕ → ℕ → X → Bor X
look_ref b o x = record { ref_ptr = (b, o); now = x }

-- what is left of an opened slice while one element is out
module _ {M : Type 1} {𝓤 : Ura M} (𝓛 : Logic 𝓤) (E : Elem) (κ : Lft) (q : Share) (ys : List E.row.Denot) (b o : ℕ) (vs : List Val) (i : ℕ) (d : E.row.Denot) where
  abbrev pub ShrHole : Share → Item 𝓤
  ShrHole q' = ‵ (E.row.own_val (get_or ys i d) (E.vals (get_or ys i d))) ⊛ (‵ (others (shares E.row) q' ys i b o)
      ⊛ (Shut 𝓛 κ q (row E.row q' ys b o) ⊛ (‵ (fhide (elements_shared E.row ys b o κ)) ⊛ ‵ (shr_slice_at E.row (look_ref b o ys) vs))))

module _ (E : Elem) (κ : Lft) (q : Share) (γ : GName) (ys : List E.row.Denot) (b o : ℕ) (vs : List Val) (i : ℕ) (d : E.row.Denot) where
  abbrev pub MutHole : Fml
  MutHole = fsep (others (shares E.row) full_share ys i b o) (fsep (fobor κ q (Held E.row (length ys) b o γ)) (fsep (fobs γ ((coded_holeys E.row).code (heres E.row ys)))
      (fsep (fauth γ ((coded_holeys E.row).code (heres E.row ys))) (mut_slice_at E.row (ref b o γ ys) vs))))

module _ {M : Type 1} {𝓤 : Ura M} {𝓛 : Logic 𝓤} {K : Type 0} {Γ : List (Item 𝓤)} {G : Goal 𝓤 𝓛.H} where
  pub takes_shr : K → Soaks G → (E : Elem) {κ : Lft} {q : Share} (ys : List E.row.Denot) (b o : ℕ) {vs : List Val} (i : ℕ) (d : E.row.Denot) → i < length ys
      → ((q' : Share) → Is E.row (get_or ys i d) (E.vals (get_or ys i d)) → Seq K 𝓛 (‵ (cell_at q' E.row.mir (E.vals (get_or ys i d)) b (i * (mem E.row).size + o)) ∷ ShrHole 𝓛 E κ q ys b o vs i d q' ∷ Γ) G)
      → Seq K 𝓛 (‵ ((ShrSlice erased κ E.row).own_val (look_ref b o ys) vs) ∷ ‵ (flft κ q) ∷ Γ) G
  takes_shr t z E ys b o i d l k =
      fsplit t $ move t (1 ∷ 2 ∷ []) $
      looks_slice t z E.row (E.copies M 𝓤 𝓛) ys b o (λ q'.
      elem_out t E.row (Is E.row) (shows 𝓛 E.row) E.vals E.tells q' ys i d b o l (λ g.
      rewrite t 0 (λ (p : ℕ). ‵ (cell_at q' E.row.mir (E.vals (get_or ys i d)) b p)) (place_is (mem E.row).size o i) refl $
      -- [the cell; what it owns; the others; what shuts; what the elements are held by; the slice's fact]
      move t (4 ∷ 5 ∷ []) $ join t $ move t (4 ∷ 0 ∷ []) $ join t $ move t (3 ∷ 0 ∷ []) $ join t $ move t (2 ∷ 0 ∷ []) $ join t $ move t (1 ∷ 0 ∷ []) $ k q' g))

  pub gives_shr : K → Soaks G → (E : Elem) {κ : Lft} {q : Share} (ys : List E.row.Denot) (b o : ℕ) {vs : List Val} (i : ℕ) (d : E.row.Denot) → i < length ys → (q' : Share)
      → Step K 𝓛 (‵ ((ShrSlice erased κ E.row).own_val (look_ref b o ys) vs) ∷ ‵ (flft κ q) ∷ Γ) G
      (‵ (cell_at q' E.row.mir (E.vals (get_or ys i d)) b (i * (mem E.row).size + o)) ∷ ShrHole 𝓛 E κ q ys b o vs i d q' ∷ Γ) G
  gives_shr t z E ys b o i d l q' = step (λ s.
      move t (1 ∷ []) $ split t $ move t (1 ∷ []) $ split t $ move t (1 ∷ []) $ split t $ move t (1 ∷ []) $ split t $
      -- [what the elements are held by; the slice's fact; what shuts; the others; what it owns; the cell]
      move t (5 ∷ 4 ∷ 3 ∷ 2 ∷ []) $
      rewrite t 0 (λ (p : ℕ). ‵ (cell_at q' E.row.mir (E.vals (get_or ys i d)) b p)) (sym (place_is (mem E.row).size o i)) refl $
      elem_back t E.row q' ys i d (E.vals (get_or ys i d)) b o l $ shuts_slice t z E.row q' ys b o $
      -- [the token; what the elements are held by; the slice's fact]
      move t (2 ∷ 1 ∷ []) $ fjoin t $ s)

  pub takes_mut : K → Soaks G → (E : Elem) {κ : Lft} {q : Share} {γ : GName} (ys : List E.row.Denot) (b o : ℕ) {vs : List Val} (i : ℕ) (d : E.row.Denot) → i < length ys
      → (Is E.row (get_or ys i d) (E.vals (get_or ys i d)) → Seq K 𝓛 (‵ (cell_at full_share E.row.mir (E.vals (get_or ys i d)) b (i * (mem E.row).size + o)) ∷ ‵ (MutHole E κ q γ ys b o vs i d) ∷ Γ) G)
      → Seq K 𝓛 (‵ ((MutSlice erased κ E.row).own_val (ref b o γ ys) vs) ∷ ‵ (flft κ q) ∷ Γ) G
  takes_mut t z E ys b o i d l k =
      fsplit t $ move t (1 ∷ []) $ fsplit t $ move t (0 ∷ 1 ∷ 3 ∷ []) $
      opens_slice t z E.row ys b o $ elem_out t E.row (Is E.row) (shows 𝓛 E.row) E.vals E.tells full_share ys i d b o l (λ g.
      rewrite t 0 (λ (p : ℕ). ‵ (cell_at full_share E.row.mir (E.vals (get_or ys i d)) b p)) (place_is (mem E.row).size o i) refl $
      -- [the cell; what it owns; the others; the open borrow; obs; auth; the slice's fact]
      move t (1 ∷ []) $ drop t $ move t (4 ∷ 5 ∷ []) $ fjoin t $ move t (4 ∷ 0 ∷ []) $ fjoin t $ move t (3 ∷ 0 ∷ []) $ fjoin t $ move t (2 ∷ 0 ∷ []) $ fjoin t $ move t (1 ∷ 0 ∷ []) $ k g)

  -- the element's new value is y, at the machine values us
  pub gives_mut : K → Soaks G → (E : Elem) {κ : Lft} {q : Share} {γ : GName} (ys : List E.row.Denot) (b o : ℕ) {vs : List Val} (i : ℕ) (d : E.row.Denot) → i < length ys
      → (y : E.row.Denot) (us : List Val) → Is E.row y us
      → Step K 𝓛 (‵ ((MutSlice erased κ E.row).own_val (ref b o γ (set ys i y)) vs) ∷ ‵ (flft κ q) ∷ Γ) G
      (‵ (cell_at full_share E.row.mir us b (i * (mem E.row).size + o)) ∷ ‵ (MutHole E κ q γ ys b o vs i d) ∷ Γ) G
  gives_mut t z E {γ = γ} ys b o {vs = vs} i d l y us is = step (λ s.
      move t (1 ∷ []) $ fsplit t $ move t (1 ∷ []) $ fsplit t $ move t (1 ∷ []) $ fsplit t $ move t (1 ∷ []) $ fsplit t $ move t (1 ∷ []) $ pure_l t (mut_slice_at E.row (ref b o γ ys) vs) (λ p.
      -- [auth; obs; the open borrow; the others; the cell]
      owned t E.row (Is E.row) (E.makes M 𝓤 𝓛) y us is $ move t (5 ∷ 0 ∷ 4 ∷ 3 ∷ 2 ∷ 1 ∷ []) $
      rewrite t 0 (λ (p : ℕ). ‵ (cell_at full_share E.row.mir us b p)) (sym (place_is (mem E.row).size o i)) refl $
      elem_put t E.row full_share ys i y us b o l $ closes_slice t z E.row ys (set ys i y) (length-set ys i y) b o $
      fjoin t $ pure_i t (mut_slice_at E.row (ref b o γ (set ys i y)) vs) (tt, (tt, tt)) (p.0 ∙ ap (λ (m : ℕ). slice_val (b, o) m ∷ []) (sym (length-set ys i y)), subst (Room E.row) (sym (length-set ys i y)) p.1) $ fjoin t $ s))

module _ {M : Type 1} (𝓤 : Ura M) (H : Heap 𝓤) where
  abbrev pub envOf : List Local → List ℕ → Env 𝓤 H
  envOf [] ls = []
  envOf (local τ h ∷ ks) [] = []
  envOf (local τ h ∷ ks) (l ∷ ls) = (τ, l) ∷ envOf ks ls

  abbrev home : Ty → ℕ → Option Val → Item 𝓤
  home τ l none = ‵ (froom τ l 0)
  home τ l (some v) = ‵ (fat full_share τ l 0 v)

  abbrev homesTo : Env 𝓤 H → List (Option Val) → List (Item 𝓤) → List (Item 𝓤)
  homesTo [] vs Γ = Γ
  homesTo (e ∷ E) [] Γ = homesTo E [] (‵ (froom e.0 e.1 0) ∷ ‵ (fdies e.0 e.1) ∷ Γ)
  homesTo (e ∷ E) (v ∷ vs) Γ = homesTo E vs (home e.0 e.1 v ∷ ‵ (fdies e.0 e.1) ∷ Γ)

  abbrev pub homes : Env 𝓤 H → List (Option Val) → List (Item 𝓤)
  homes E vs = homesTo E vs []

-- the locals' entries give their rooms, and those are what freeing them asks
module _ {M : Type 1} {𝓤 : Ura M} (𝓛 : Logic 𝓤) where
  open 𝓛 use {H}

  abbrev Rooms : Env 𝓤 H → SProp 𝓤
  Rooms [] = emp 𝓤
  Rooms (e ∷ E) = sep 𝓤 (sep 𝓤 (H.room e.0 e.1 0) (H.dies e.0 e.1)) (Rooms E)

  a_room : (τ : Ty) (l : ℕ) (v : Option Val) → ent 𝓤 (mean 𝓛 (home 𝓤 H τ l v)) (H.room τ l 0)
  a_room τ l none = id⊢ 𝓤 (H.room τ l 0)
  a_room τ l (some v) = 𝓛.laws.at_room τ l 0 v

  one_room : (e : Ty × ℕ) (E : Env 𝓤 H) (i : Item 𝓤) (Γ : List (Item 𝓤)) → ent 𝓤 (mean 𝓛 i) (H.room e.0 e.1 0) → ent 𝓤 (sep 𝓤 (Rooms E) (⋆ 𝓛 (i ∷ ‵ (fdies e.0 e.1) ∷ Γ))) (sep 𝓤 (Rooms (e ∷ E)) (⋆ 𝓛 Γ))
  one_room e E i Γ h =
      let X : SProp 𝓤 = H.room e.0 e.1 0 in
      let D : SProp 𝓤 = H.dies e.0 e.1 in
      via 𝓤 (sep 𝓤 (Rooms E) (sep 𝓤 (sep 𝓤 X D) (⋆ 𝓛 Γ)))
      (mono_r 𝓤 (Rooms E) (via 𝓤 (sep 𝓤 X (⋆ 𝓛 (‵ (fdies e.0 e.1) ∷ Γ))) (mono_l 𝓤 (⋆ 𝓛 (‵ (fdies e.0 e.1) ∷ Γ)) h)
      (via 𝓤 (sep 𝓤 X (sep 𝓤 D (⋆ 𝓛 Γ))) (mono_r 𝓤 X (pop 𝓛 (‵ (fdies e.0 e.1)) Γ)) (assoc' 𝓤 X D (⋆ 𝓛 Γ)))))
      (via 𝓤 (sep 𝓤 (sep 𝓤 (Rooms E) (sep 𝓤 X D)) (⋆ 𝓛 Γ)) (assoc' 𝓤 (Rooms E) (sep 𝓤 X D) (⋆ 𝓛 Γ)) (mono_l 𝓤 (⋆ 𝓛 Γ) (comm∗ 𝓤 (Rooms E) (sep 𝓤 X D))))

  rooms : (E : Env 𝓤 H) (vs : List (Option Val)) (Γ : List (Item 𝓤)) → ent 𝓤 (⋆ 𝓛 (homesTo 𝓤 H E vs Γ)) (sep 𝓤 (Rooms E) (⋆ 𝓛 Γ))
  rooms [] vs Γ = emp∗ 𝓤 (⋆ 𝓛 Γ)
  rooms (e ∷ E) [] Γ = via 𝓤 (sep 𝓤 (Rooms E) (⋆ 𝓛 (‵ (froom e.0 e.1 0) ∷ ‵ (fdies e.0 e.1) ∷ Γ))) (rooms E [] (‵ (froom e.0 e.1 0) ∷ ‵ (fdies e.0 e.1) ∷ Γ)) (one_room e E (‵ (froom e.0 e.1 0)) Γ (id⊢ 𝓤 (H.room e.0 e.1 0)))
  rooms (e ∷ E) (v ∷ vs) Γ = via 𝓤 (sep 𝓤 (Rooms E) (⋆ 𝓛 (home 𝓤 H e.0 e.1 v ∷ ‵ (fdies e.0 e.1) ∷ Γ))) (rooms E vs (home 𝓤 H e.0 e.1 v ∷ ‵ (fdies e.0 e.1) ∷ Γ)) (one_room e E (home 𝓤 H e.0 e.1 v) Γ (a_room e.0 e.1 v))

  released : (E : Env 𝓤 H) (P : SProp 𝓤) → ent 𝓤 (sep 𝓤 (Rooms E) P) (release 𝓤 H E P)
  released [] P = snd∗ 𝓤 (emp 𝓤) P
  released (e ∷ E) P =
      let X : SProp 𝓤 = sep 𝓤 (H.room e.0 e.1 0) (H.dies e.0 e.1) in
      via 𝓤 (sep 𝓤 X (sep 𝓤 (Rooms E) P)) (assoc∗ 𝓤 X (Rooms E) P) (mono_r 𝓤 X (released E P))

abbrev into : {X : Type 2} → ℕ → X → List X → List X
into zero i Γ = i ∷ Γ
into (suc n) i [] = i ∷ []
into (suc n) i (j ∷ Γ) = j ∷ into n i Γ

module _ {M : Type 1} {𝓤 : Ura M} (𝓛 : Logic 𝓤) where
  into⊢ : (n : ℕ) (i : Item 𝓤) (Γ : List (Item 𝓤)) → ent 𝓤 (⋆ 𝓛 (i ∷ Γ)) (⋆ 𝓛 (into n i Γ))
  into⊢ zero i Γ = id⊢ 𝓤 (⋆ 𝓛 (i ∷ Γ))
  into⊢ (suc n) i [] = id⊢ 𝓤 (⋆ 𝓛 (i ∷ []))
  into⊢ (suc n) i (j ∷ Γ) =
      via 𝓤 (⋆ 𝓛 (j ∷ i ∷ Γ)) (sel⊢ 𝓛 (1 ∷ 0 ∷ []) (i ∷ j ∷ Γ))
      (via 𝓤 (sep 𝓤 (mean 𝓛 j) (⋆ 𝓛 (i ∷ Γ))) (pop 𝓛 j (i ∷ Γ))
      (via 𝓤 (sep 𝓤 (mean 𝓛 j) (⋆ 𝓛 (into n i Γ))) (mono_r 𝓤 (mean 𝓛 j) (into⊢ n i Γ)) (push 𝓛 j (into n i Γ))))

module _ {M : Type 1} {𝓤 : Ura M} {𝓛 : Logic 𝓤} {K : Type 0} {Γ : List (Item 𝓤)} {i : Item 𝓤} {G : Goal 𝓤 𝓛.H} where
  pub puts : K → (n : ℕ) → Step K 𝓛 (into n i Γ) G (i ∷ Γ) G
  puts t n = step (λ s. record { prf = via 𝓤 (⋆ 𝓛 (into n i Γ)) (into⊢ 𝓛 n i Γ) s.prf })

module _ {M : Type 1} {𝓤 : Ura M} {𝓛 : Logic 𝓤} {K : Type 0} {Γ : List (Item 𝓤)} where
  open 𝓛 use {H}

  pub frees_all : K → (k : ℕ) {E : Env 𝓤 H} (vs : List (Option Val)) {g : Goal 𝓤 H} → Γ ≡ take k Γ ++ homes 𝓤 H E vs → Step K 𝓛 (take k Γ) g Γ (frees E g)
  frees_all t k {E} vs {g} e = step (λ s. record {
    prf = via 𝓤 (⋆ 𝓛 (take k Γ ++ homes 𝓤 H E vs)) (subst (λ (Δ : List (Item 𝓤)). ent 𝓤 (⋆ 𝓛 Γ) (⋆ 𝓛 Δ)) e (id⊢ 𝓤 (⋆ 𝓛 Γ)))
        (via 𝓤 (sep 𝓤 (⋆ 𝓛 (take k Γ)) (⋆ 𝓛 (homes 𝓤 H E vs))) (⊢++ 𝓛 (take k Γ) (homes 𝓤 H E vs))
        (via 𝓤 (sep 𝓤 (⋆ 𝓛 (homes 𝓤 H E vs)) (⋆ 𝓛 (take k Γ))) (comm∗ 𝓤 (⋆ 𝓛 (take k Γ)) (⋆ 𝓛 (homes 𝓤 H E vs)))
        (via 𝓤 (sep 𝓤 (Rooms 𝓛 E) (⋆ 𝓛 (take k Γ))) (mono_l 𝓤 (⋆ 𝓛 (take k Γ)) (via 𝓤 (sep 𝓤 (Rooms 𝓛 E) (emp 𝓤)) (rooms 𝓛 E vs []) (fst∗ 𝓤 (Rooms 𝓛 E) (emp 𝓤))))
        (via 𝓤 (sep 𝓤 (Rooms 𝓛 E) (aim 𝓤 H g)) (mono_r 𝓤 (Rooms 𝓛 E) s.prf) (released 𝓛 E (aim 𝓤 H g))))));
  })

module _ {M : Type 1} {𝓤 : Ura M} (𝓛 : Logic 𝓤) (𝓣 : Tables 𝓤 𝓛.H) (E : Env 𝓤 𝓛.H) (turn : Body) (Q : Out → SProp 𝓤) (n : ℕ) (φ : ℕ → Type 0) (At : ℕ → SProp 𝓤)
    (more : (i : ℕ) → i < n → φ i → ent 𝓤 (At i) (Wp 𝓤 𝓛.H 𝓣.C 𝓣.Λ E turn (after_turn 𝓤 𝓛.H (guard 𝓤 (φ (suc i)) (At (suc i))) Q)))
    (ends : φ n → ent 𝓤 (At n) (Wp 𝓤 𝓛.H 𝓣.C 𝓣.Λ E turn (after_turn 𝓤 𝓛.H (never 𝓤) Q))) where
  open 𝓛 use {H}

  from_here : (t i : ℕ) → i + t ≡ n → φ i → ent 𝓤 (At i) (𝓣.Λ turn E Q)
  from_here zero i e h = subst (λ (k : ℕ). φ k → ent 𝓤 (At k) (𝓣.Λ turn E Q)) (sym e ∙ add-zero i) (λ h'. via 𝓤 (Wp 𝓤 H 𝓣.C 𝓣.Λ E turn (after_turn 𝓤 H (never 𝓤) Q)) (ends h') (unroll 𝓤 H 𝓛.laws 𝓣 E turn Q (never 𝓤) (never_e 𝓤 _))) h
  from_here (suc t) i e h =
      via 𝓤 (Wp 𝓤 H 𝓣.C 𝓣.Λ E turn (after_turn 𝓤 H (guard 𝓤 (φ (suc i)) (At (suc i))) Q)) (more i (omega (arith, e)) h)
      (unroll 𝓤 H 𝓛.laws 𝓣 E turn Q (guard 𝓤 (φ (suc i)) (At (suc i))) (guard_e 𝓤 (φ (suc i)) (At (suc i)) (λ h'. from_here t (suc i) (omega (arith, e)) h')))

  pub counted_with : φ 0 → ent 𝓤 (At 0) (Wp 𝓤 H 𝓣.C 𝓣.Λ E (loop turn) Q)
  counted_with h = via 𝓤 (𝓣.Λ turn E Q) (from_here n 0 (zero-add n) h) (𝓛.laws.⇛_intro (𝓣.Λ turn E Q))

module _ {M : Type 1} {𝓤 : Ura M} (𝓛 : Logic 𝓤) (𝓣 : Tables 𝓤 𝓛.H) (E : Env 𝓤 𝓛.H) (turn : Body) (Q : Out → SProp 𝓤) (n : ℕ) (At : ℕ → SProp 𝓤) where
  open 𝓛 use {H}

  pub counted : ((i : ℕ) → i < n → ent 𝓤 (At i) (Wp 𝓤 H 𝓣.C 𝓣.Λ E turn (after_turn 𝓤 H (At (suc i)) Q))) → ent 𝓤 (At n) (Wp 𝓤 H 𝓣.C 𝓣.Λ E turn (after_turn 𝓤 H (never 𝓤) Q))
      → ent 𝓤 (At 0) (Wp 𝓤 H 𝓣.C 𝓣.Λ E (loop turn) Q)
  counted more ends = counted_with 𝓛 𝓣 E turn Q n (λ _. Unit {0}) At
      (λ i l _. via 𝓤 (Wp 𝓤 H 𝓣.C 𝓣.Λ E turn (after_turn 𝓤 H (At (suc i)) Q)) (more i l)
      (Wp-mono 𝓤 H 𝓛.laws 𝓣 E turn (after_turn 𝓤 H (At (suc i)) Q) (after_turn 𝓤 H (guard 𝓤 (Unit {0}) (At (suc i))) Q) (after_turn_mono 𝓤 H 𝓛.laws (At (suc i)) (guard 𝓤 (Unit {0}) (At (suc i))) Q (guard_i 𝓤 (Unit {0}) (At (suc i)) tt))))
      (λ _. ends) tt

-- The calls of C on a handle, in one walk of their MIR whatever their arguments are. At null they answer at once. Elsewhere the handle is lent for a
-- lifetime that is made for the call of its method, and comes back once that is ended.
pub use Rattle.geolint_c.specs.contracts.handle.Handle.{the_row as HandleRow}
pub use Rattle.geolint_c.specs.contracts.features.FeatureHandle.{the_row as FeatureRow}
pub use Rattle.geolint_c.specs.contracts.records.RecordHandle.{the_row as RecordRow}
pub use Rattle.geolint_c.specs.contracts.join.JoinHandle.{the_row as JoinRow}
pub use Rattle.geolint_c.specs.contracts.locator.LocatorHandle.{the_row as LocatorRow}
pub use Rattle.geolint_c.specs.contracts.run.RunHandle.{the_row as RunRow}
pub use Rattle.std.proofs.Common.{[], ◌∷◌, refl, w32, w64}
use Rattle.std.proofs.Common.{◌≡◌, ℕ, zero, suc, ◌+◌, ◌^◌, List, length, ap, subst, ◌∙◌, lit<, MutBor}
use Rattle.std.proofs.raw_atomic.Walks.{proved}
use Rattle.geolint_c.specs.Stream.{Leaves}
use Rattle.std.specs.Ptr.{if_non_null}
use seplogic.Ra.Ura.{Ura}
use base.Fraction.{full_share}
use base.Logic.{SProp, ent, sep, emp, emp∗, ex_i, via, id⊢}
use base.Fml.{Fml, ftrue, fsep, flft, flent, fat, froom}
use mir.Syntax.{ty_int, named, Callee, Fn, Local, local, value_local, ty_ptr, ty_bool, ty_ref, erased, mut, Body, seq, block, assign, place, rv_opd, copy, op2}
use mir.Syntax.{ptr_eq, int, cond, return, addr_of, deref, call, Ty, Width, Place, Opd as Operand}
use mir.Val.{Val, vint, vptr, bits, has_ty, WT}
use prog.Wp.{WpFn, Closed, Env, Calls, Loops}
use prog.Model.{Model}
use contract.Monad.{fact, fact_i}
use contract.Lifetimes.{Lfts, Shares, AllOutlive, toks}
use contract.Running.{Running, MachineTables, tables}
use types.Logic.{Logic, sem}
use types.Kit.{Item, Goal, Post, Go, Sq, ‵, raw, ◌⊛◌, some, later, prop, runs, lands, ◌$◌, ◌∵◌, !, qed, done, move, drop, use0, use1, use2, use3, split, join}
use types.Kit.{fsplit, pick, await, regoal, suffices, group}
use types.Run.{init, enter, of_opd, lit, bin, addr, stop, no_more, and_then, assigns, first, blocks, branches, returns_within, Opds}
use types.ByLocal.{alloc_all, pass_all, free_all, look_at, get, through, sets, lands_as}
use types.Tokens.{lft_new, lft_end}
use types.SemTy.{Body as Inside}
use borrow.Table.OneValue.{One, part_in}
use lib.Dec.{T, ltb}
use denote.Builtin.{SliceRefOf, RefOf, One as Alone, u8, u32}
use denote.RattleType.{RattleType, Denots, Valss, flat, owns}
use denote.Exit.{yes, Last}
use denote.Laws.{shows, Is, Are, Ises, Spells, Tells, Tellss, Lawful, Typed, Makes, Makess, valss, owns_make}
pub use denote.Plain.{uint_Makes}
use denote.Plain.{UInt, uint_Lawful, uint_Tells}
use denote.RawPtr.{Ptr, RawPtr, block_ptr, null_ptr, ptr_val, lies_at, room_at, rawptr_vals, rawptr_Tells, Testable, tests_null}
use denote.Ref.{MutRef, mut_vals, ShrRef, shr_Tells, shr_Lawful}
use denote.Memory.{part_at, mem, lone, pointee}
use denote.Slice.{ShrSlice, slice_val, shr_slice_Lawful, shr_slice_Tells}
use denote.Signature.{Slot, plain, mut_ref_to, types_at}
use denote.Steps.{nothing, owned, heard, peeks}
use denote.Triple.Call.{calls_at}
use denote.Triple.Clauses.{lasts, Ended, Clauses, closing}
use denote.Triple.End.{Fins, all}
use denote.Triple.Entry.{on_entry}
use denote.Triple.Spec.{triple_of, Meets}
use denote.Triple.Statement.{Contract}
use denote.Triple.Walked.{Stays, Goes, AllGo, fits_of, has_of, walk_of, stay_dropped, Goes-dropped, ends_at}
use denote.Triple.Table.{framed}
use denote.Lend.{lends_ref, ref_back}

-- by the form of the pointer at which the head lies
module _ {M : Type 1} {𝓤 : Ura M} {𝓛 : Logic 𝓤} {Γ : List (Item 𝓤)} {G : Goal 𝓤 𝓛.H} where
  by_form : (p : Ptr) (F : Ptr → Fml) → (p ≡ null_ptr → Sq 𝓛 (‵ (F null_ptr) ∷ Γ) G)
      → ((b o : ℕ) → p ≡ block_ptr b o → Sq 𝓛 (‵ (F (block_ptr b o)) ∷ Γ) G) → Sq 𝓛 (‵ (F p) ∷ Γ) G
  by_form (block_ptr b o) F at_null elsewhere = elsewhere b o refl
  by_form null_ptr F at_null elsewhere = at_null refl

-- a value of a type that one machine value holds
pub typed_alone : (τs : List Ty) (v : Val) → Typed τs (v ∷ []) → T (has_ty (lone τs) v) × WT v
typed_alone [] v t = absurd t
typed_alone (τ ∷ []) v t = t.0
typed_alone (τ ∷ σ ∷ τs) v t = absurd t.1

-- ---- the code, and how it runs up to the method's call

abbrev Ok : Ty → Val → Type 0
Ok τ v = T (has_ty τ v) × WT v

-- the arguments beside the pointer: their types and their machine values
pub data Few : List Ty → List Val → Type 0 where
  none : Few [] []
  one : (τ : Ty) (v : Val) → Ok τ v → Few (τ ∷ []) (v ∷ [])
  two : (τ σ : Ty) (v u : Val) → Ok τ v → Ok σ u → Few (τ ∷ σ ∷ []) (v ∷ u ∷ [])
  three : (τ σ ρ : Ty) (v u t : Val) → Ok τ v → Ok σ u → Ok ρ t → Few (τ ∷ σ ∷ ρ ∷ []) (v ∷ u ∷ t ∷ [])

abbrev count : List Ty → ℕ
count [] = 0
count (τ ∷ τs) = count τs + 1

abbrev copies : ℕ → List Ty → List Operand
copies i [] = []
copies i (τ ∷ τs) = copy (place i []) ∷ copies (i + 1) τs

abbrev locals_of : List Ty → List Local → List Local
locals_of [] ls = ls
locals_of (τ ∷ τs) ls = local τ value_local ∷ locals_of τs ls

-- the last local is of the type `last`
abbrev pub function : ℕ → Ty → List Ty → Ty → Body → Body → Fn
function n out τs last at_null rest = record {
  lifetimes = n;
  outlives = [];
  ty_params = [];
  givens = 0;
  params = count τs + 1;
  locals = local out value_local ∷ local ty_ptr value_local ∷ locals_of τs (local ty_ptr value_local ∷ local ty_bool value_local ∷ local last value_local ∷ []);
  body = seq (block (seq (assign (place (count τs + 2) []) (rv_opd (copy (place 1 [])))) (seq (assign (place (count τs + 3) [])
      (op2 ptr_eq (copy (place (count τs + 2) [])) (int w64 0))) (cond (copy (place (count τs + 3) [])) (seq at_null return) rest)))) return;
}

abbrev operands : List Ty → List Operand
operands τs = copy (place (count τs + 4) []) ∷ copies 2 τs

abbrev pub lending : Callee → List Ty → Ty → Body
lending m τs of = seq (assign (place (count τs + 4) []) (addr_of (place (count τs + 2) (deref of ∷ []))))
    (seq (call m (operands τs) (place 0 [])) return)

abbrev writing : Callee → List Ty → Ty → Body
writing s τs of = seq (assign (place (count τs + 2) (deref of ∷ [])) (rv_opd (copy (place (count τs + 4) []))))
    (seq (call s (copies 2 τs) (place 0 [])) return)

abbrev pub beginning : Callee → Callee → List Ty → Ty → Body
beginning k s τs of = seq (call k (copies 2 τs) (place (count τs + 4) [])) (writing s τs of)

module _ {M : Type 1} {𝓤 : Ura M} (𝓛 : Logic 𝓤) (C : Calls 𝓤 𝓛.H) (Λ : Loops 𝓤 𝓛.H) (n : ℕ) (out : Ty) (at_null : Body) (Kf : Val → SProp 𝓤) where
  -- the locals Γ, from which what stands for the result can be returned
  abbrev Lands : List (Item 𝓤) → Env 𝓤 𝓛.H → Post 𝓤 𝓛.H → Type 2
  Lands Γ E q = (v : Val) (X : Item 𝓤) → Ok out v → Sq 𝓛 (X ∷ []) (prop (Kf v)) → Sq 𝓛 (X ∷ Γ) (lands C Λ E (place 0 []) v return q)

  abbrev Puts : List (Item 𝓤) → Env 𝓤 𝓛.H → Post 𝓤 𝓛.H → Type 2
  Puts Γ E q = (w : Width) (m : ℕ) (X : Item 𝓤) → T (ltb m (2 ^ bits w)) → Ok out (vint w m) → Sq 𝓛 (X ∷ []) (prop (Kf (vint w m)))
      → Sq 𝓛 (X ∷ Γ) (runs C Λ E (seq (assign (place 0 []) (rv_opd (int w m))) return) q)

  abbrev Reads : ℕ → List (Item 𝓤) → Env 𝓤 𝓛.H → List Ty → List Val → Type 2
  Reads i Γ E τs vs = (j k : Item 𝓤) → Opds Go 𝓛 (j ∷ k ∷ Γ) E (copies i τs) vs

  -- the handle v is written where there is room for it
  abbrev Stores : List (Item 𝓤) → Env 𝓤 𝓛.H → Post 𝓤 𝓛.H → Ty → Callee → List Ty → List Val → ℕ → ℕ → Type 2
  Stores Γ E q of s τs vs b o = (v : Val) (i : Item 𝓤) → Ok of v
      → ((Γ' : List (Item 𝓤)) → Lands Γ' E q → Reads 2 Γ' E τs vs
      → Sq 𝓛 (i ∷ ‵ (fat full_share of b o v) ∷ Γ') (runs C Λ E (seq (call s (copies 2 τs) (place 0 [])) return) q))
      → Sq 𝓛 (i ∷ ‵ (froom of b o) ∷ Γ) (lands C Λ E (place (count τs + 4) []) v (writing s τs of) q)

  at_null_first : {τs : List Ty} {vs : List Val} → Few τs vs → (last : Ty) (rest : Body) (i : Item 𝓤)
      → ((Γ : List (Item 𝓤)) (E : Env 𝓤 𝓛.H) (q : Post 𝓤 𝓛.H) → Lands Γ E q → Puts Γ E q → Sq 𝓛 (i ∷ Γ) (runs C Λ E (seq at_null return) q))
      → Sq 𝓛 (i ∷ []) (prop (WpFn 𝓤 𝓛.H C Λ (function n out τs last at_null rest) (ptr_val null_ptr ∷ vs) Kf))
  at_null_first none last rest i go =
      enter ! _ _ _ _ _ $ alloc_all ! (λ l. pass_all ! refl ((tt, record { fits = lit< tt }), tt) $ first ! $ blocks ! $
      sets ! (of_opd ! (get ! refl)) refl (tt, record { fits = lit< tt }) $
      sets ! (bin ! (get ! refl) (lit ! tt) (tests_null null_ptr (lit< tt))) refl (tt, tt) $
      branches ! (get ! refl) (λ t. go _ _ _ (λ v X ok s. lands_as ! refl refl ok $ returns_within ! Kf refl (look_at ! 0 refl) $ free_all ! refl $ s)
      (λ w m X low ok s. sets ! (of_opd ! (lit ! low)) refl ok $ returns_within ! Kf refl (look_at ! 0 refl) $ free_all ! refl $ s)) (λ t. absurd t))
  at_null_first (one τ u a) last rest i go =
      enter ! _ _ _ _ _ $ alloc_all ! (λ l. pass_all ! refl ((tt, record { fits = lit< tt }), (a, tt)) $ first ! $ blocks ! $
      sets ! (of_opd ! (get ! refl)) refl (tt, record { fits = lit< tt }) $
      sets ! (bin ! (get ! refl) (lit ! tt) (tests_null null_ptr (lit< tt))) refl (tt, tt) $
      branches ! (get ! refl) (λ t. go _ _ _ (λ v X ok s. lands_as ! refl refl ok $ returns_within ! Kf refl (look_at ! 0 refl) $ free_all ! refl $ s)
      (λ w m X low ok s. sets ! (of_opd ! (lit ! low)) refl ok $ returns_within ! Kf refl (look_at ! 0 refl) $ free_all ! refl $ s)) (λ t. absurd t))
  at_null_first (two τ σ u t a b) last rest i go =
      enter ! _ _ _ _ _ $ alloc_all ! (λ l. pass_all ! refl ((tt, record { fits = lit< tt }), (a, (b, tt))) $ first ! $ blocks ! $
      sets ! (of_opd ! (get ! refl)) refl (tt, record { fits = lit< tt }) $
      sets ! (bin ! (get ! refl) (lit ! tt) (tests_null null_ptr (lit< tt))) refl (tt, tt) $
      branches ! (get ! refl) (λ t. go _ _ _ (λ v X ok s. lands_as ! refl refl ok $ returns_within ! Kf refl (look_at ! 0 refl) $ free_all ! refl $ s)
      (λ w m X low ok s. sets ! (of_opd ! (lit ! low)) refl ok $ returns_within ! Kf refl (look_at ! 0 refl) $ free_all ! refl $ s)) (λ t. absurd t))
  at_null_first (three τ σ ρ u t s a b c) last rest i go =
      enter ! _ _ _ _ _ $ alloc_all ! (λ l. pass_all ! refl ((tt, record { fits = lit< tt }), (a, (b, (c, tt)))) $ first ! $ blocks ! $
      sets ! (of_opd ! (get ! refl)) refl (tt, record { fits = lit< tt }) $
      sets ! (bin ! (get ! refl) (lit ! tt) (tests_null null_ptr (lit< tt))) refl (tt, tt) $
      branches ! (get ! refl) (λ t. go _ _ _ (λ v X ok s. lands_as ! refl refl ok $ returns_within ! Kf refl (look_at ! 0 refl) $ free_all ! refl $ s)
      (λ w m X low ok s. sets ! (of_opd ! (lit ! low)) refl ok $ returns_within ! Kf refl (look_at ! 0 refl) $ free_all ! refl $ s)) (λ t. absurd t))

  lent_first : {τs : List Ty} {vs : List Val} → Few τs vs → (of to : Ty) (m : Callee) (b o : ℕ) → Testable (block_ptr b o) → (i j k : Item 𝓤)
      → ((Γ : List (Item 𝓤)) (E : Env 𝓤 𝓛.H) (q : Post 𝓤 𝓛.H) → Lands Γ E q → ((i j : Item 𝓤) → Opds Go 𝓛 (i ∷ j ∷ Γ) E (operands τs) (vptr b o ∷ vs))
      → Sq 𝓛 (i ∷ j ∷ k ∷ Γ) (runs C Λ E (seq (call m (operands τs) (place 0 [])) return) q))
      → Sq 𝓛 (i ∷ j ∷ k ∷ []) (prop (WpFn 𝓤 𝓛.H C Λ (function n out τs (ty_ref erased mut to) at_null (lending m τs of)) (vptr b o ∷ vs) Kf))
  lent_first none of to m b o may i j k go =
      enter ! _ _ _ _ _ $ alloc_all ! (λ l. pass_all ! refl ((tt, tt), tt) $ first ! $ blocks ! $ sets ! (of_opd ! (get ! refl)) refl (tt, tt) $
      sets ! (bin ! (get ! refl) (lit ! tt) (tests_null (block_ptr b o) may)) refl (tt, tt) $
      branches ! (get ! refl) (λ t. absurd t) (λ t. sets ! (addr ! (through ! refl (stop !))) refl (tt, tt) $
      go _ _ _ (λ v X ok s. lands_as ! refl refl ok $ returns_within ! Kf refl (look_at ! 0 refl) $ free_all ! refl $ s)
      (λ i j. and_then ! (get ! refl) (no_more !))))
  lent_first (one τ u a) of to m b o may i j k go =
      enter ! _ _ _ _ _ $ alloc_all ! (λ l. pass_all ! refl ((tt, tt), (a, tt)) $ first ! $ blocks ! $ sets ! (of_opd ! (get ! refl)) refl (tt, tt) $
      sets ! (bin ! (get ! refl) (lit ! tt) (tests_null (block_ptr b o) may)) refl (tt, tt) $
      branches ! (get ! refl) (λ t. absurd t) (λ t. sets ! (addr ! (through ! refl (stop !))) refl (tt, tt) $
      go _ _ _ (λ v X ok s. lands_as ! refl refl ok $ returns_within ! Kf refl (look_at ! 0 refl) $ free_all ! refl $ s)
      (λ i j. and_then ! (get ! refl) (and_then ! (get ! refl) (no_more !)))))
  lent_first (two τ σ u t a a') of to m b o may i j k go =
      enter ! _ _ _ _ _ $ alloc_all ! (λ l. pass_all ! refl ((tt, tt), (a, (a', tt))) $ first ! $ blocks ! $ sets ! (of_opd ! (get ! refl)) refl (tt, tt) $
      sets ! (bin ! (get ! refl) (lit ! tt) (tests_null (block_ptr b o) may)) refl (tt, tt) $
      branches ! (get ! refl) (λ t. absurd t) (λ t. sets ! (addr ! (through ! refl (stop !))) refl (tt, tt) $
      go _ _ _ (λ v X ok s. lands_as ! refl refl ok $ returns_within ! Kf refl (look_at ! 0 refl) $ free_all ! refl $ s)
      (λ i j. and_then ! (get ! refl) (and_then ! (get ! refl) (and_then ! (get ! refl) (no_more !))))))
  lent_first (three τ σ ρ u t s a a' a'') of to m b o may i j k go =
      enter ! _ _ _ _ _ $ alloc_all ! (λ l. pass_all ! refl ((tt, tt), (a, (a', (a'', tt)))) $ first ! $ blocks ! $ sets ! (of_opd ! (get ! refl)) refl (tt, tt) $
      sets ! (bin ! (get ! refl) (lit ! tt) (tests_null (block_ptr b o) may)) refl (tt, tt) $
      branches ! (get ! refl) (λ t. absurd t) (λ t. sets ! (addr ! (through ! refl (stop !))) refl (tt, tt) $
      go _ _ _ (λ v X ok s. lands_as ! refl refl ok $ returns_within ! Kf refl (look_at ! 0 refl) $ free_all ! refl $ s)
      (λ i j. and_then ! (get ! refl) (and_then ! (get ! refl) (and_then ! (get ! refl) (and_then ! (get ! refl) (no_more !)))))))

  begun_first : {τs : List Ty} {vs : List Val} → Few τs vs → T (ltb 1 (count τs)) → (of : Ty) (k s : Callee) (b o : ℕ) → Testable (block_ptr b o) → ((Γ : List (Item 𝓤))
      (E : Env 𝓤 𝓛.H) (q : Post 𝓤 𝓛.H) → Reads 2 Γ E τs vs → Stores Γ E q of s τs vs b o
      → Sq 𝓛 (‵ (froom of b o) ∷ Γ) (runs C Λ E (beginning k s τs of) q))
      → Sq 𝓛 (‵ (froom of b o) ∷ []) (prop (WpFn 𝓤 𝓛.H C Λ (function n out τs of at_null (beginning k s τs of)) (vptr b o ∷ vs) Kf))
  begun_first none enough of k s b o may go = absurd enough
  begun_first (one τ u a) enough of k s b o may go = absurd enough
  begun_first (two τ σ u t a a') enough of k s b o may go =
      enter ! _ _ _ _ _ $ alloc_all ! (λ l. pass_all ! refl ((tt, tt), (a, (a', tt))) $ first ! $ blocks ! $ sets ! (of_opd ! (get ! refl)) refl (tt, tt) $
      sets ! (bin ! (get ! refl) (lit ! tt) (tests_null (block_ptr b o) may)) refl (tt, tt) $
      branches ! (get ! refl) (λ t. absurd t) (λ t. go _ _ _ (λ i j. and_then ! (get ! refl) (and_then ! (get ! refl) (no_more !)))
      (λ v i ok more. lands_as ! refl refl ok $ assigns ! (of_opd ! (get ! refl)) (through ! refl (stop !)) (init ! 1 refl ok) $
      more _ (λ v X ok s. lands_as ! refl refl ok $ returns_within ! Kf refl (look_at ! 0 refl) $ free_all ! refl $ s)
      (λ i j. and_then ! (get ! refl) (and_then ! (get ! refl) (no_more !))))))
  begun_first (three τ σ ρ u t t' a a' a'') enough of k s b o may go =
      enter ! _ _ _ _ _ $ alloc_all ! (λ l. pass_all ! refl ((tt, tt), (a, (a', (a'', tt)))) $ first ! $ blocks ! $ sets ! (of_opd ! (get ! refl)) refl (tt, tt) $
      sets ! (bin ! (get ! refl) (lit ! tt) (tests_null (block_ptr b o) may)) refl (tt, tt) $
      branches ! (get ! refl) (λ t. absurd t) (λ t. go _ _ _ (λ i j. and_then ! (get ! refl) (and_then ! (get ! refl) (and_then ! (get ! refl) (no_more !))))
      (λ v i ok more. lands_as ! refl refl ok $ assigns ! (of_opd ! (get ! refl)) (through ! refl (stop !)) (init ! 1 refl ok) $
      more _ (λ v X ok s. lands_as ! refl refl ok $ returns_within ! Kf refl (look_at ! 0 refl) $ free_all ! refl $ s)
      (λ i j. and_then ! (get ! refl) (and_then ! (get ! refl) (and_then ! (get ! refl) (no_more !)))))))

-- ---- the arguments

-- An argument beside the pointer, as the call takes it and as the method does, which has a lifetime more. A contract sees an X of it.
pub record Arg {M : Type 1} {𝓤 : Ura M} (𝓛 : Logic 𝓤) (n : ℕ) : Type 2 where
  pub slot : Slot n
  pub inner : Slot (suc n)
  pub type : Ty
  pub X : Type 0
  pub see : (κs : Lfts n) → (slot.row κs).Denot → X
  pub see_inner : (κs : Lfts (suc n)) → (inner.row κs).Denot → X
  pub to : (κs : Lfts n) (α : ℕ) → (slot.row κs).Denot → (inner.row (α ∷ [], κs)).Denot
  pub seen : (κs : Lfts n) (α : ℕ) (x : (slot.row κs).Denot) → see_inner (α ∷ [], κs) (to κs α x) ≡ see κs x
  pub val : (κs : Lfts n) → (slot.row κs).Denot → Val
  pub are : (κs : Lfts n) (α : ℕ) (x : (slot.row κs).Denot)
      → (slot.row κs).own_val x (val κs x ∷ []) ≡ (inner.row (α ∷ [], κs)).own_val (to κs α x) (val κs x ∷ [])
  pub tells : (κs : Lfts n) → Tells (slot.row κs) (Is (slot.row κs)) (λ x. val κs x ∷ [])
  pub typed : (κs : Lfts n) (x : (slot.row κs).Denot) → Is (slot.row κs) x (val κs x ∷ []) → Ok type (val κs x)
  pub last : (κs : Lfts n) (x : (slot.row κs).Denot) → Last ((slot.row κs).exit yes) x
  pub goes : Goes 𝓛 n slot yes (stay_dropped slot yes)

module _ {M : Type 1} {𝓤 : Ura M} (𝓛 : Logic 𝓤) {n : ℕ} where
  abbrev pub slots : List (Arg 𝓛 n) → List (Slot n)
  slots [] = []
  slots (a ∷ As) = a.slot ∷ slots As

  abbrev pub inners : List (Arg 𝓛 n) → List (Slot (suc n))
  inners [] = []
  inners (a ∷ As) = a.inner ∷ inners As

  abbrev pub mirs : List (Arg 𝓛 n) → List Ty
  mirs [] = []
  mirs (a ∷ As) = a.type ∷ mirs As

  abbrev pub Seen : List (Arg 𝓛 n) → Type 0
  Seen [] = Unit {0}
  Seen (a ∷ As) = a.X × Seen As

  abbrev pub Short : List (Arg 𝓛 n) → Type 0
  Short [] = Unit {0}
  Short (a ∷ []) = Unit {0}
  Short (a ∷ b ∷ []) = Unit {0}
  Short (a ∷ b ∷ c ∷ []) = Unit {0}
  Short (a ∷ b ∷ c ∷ d ∷ As) = ⊥

  abbrev dropped : (As : List (Arg 𝓛 n)) → Stays (slots As) (all yes (slots As))
  dropped [] = tt
  dropped (a ∷ As) = (stay_dropped a.slot yes, dropped As)

  abbrev all_go : (As : List (Arg 𝓛 n)) → AllGo 𝓛 n (slots As) (all yes (slots As)) (dropped As)
  all_go [] = tt
  all_go (a ∷ As) = (a.goes, all_go As)

  module _ (κs : Lfts n) where
    abbrev Given : List (Arg 𝓛 n) → Type 0
    Given As = Denots (types_at (slots As) κs)

    abbrev spells : (As : List (Arg 𝓛 n)) → Spells (types_at (slots As) κs)
    spells [] = tt
    spells (a ∷ As) = (λ x. a.val κs x ∷ [], spells As)

    abbrev vals : (As : List (Arg 𝓛 n)) → Given As → Valss (types_at (slots As) κs)
    vals As = valss (types_at (slots As) κs) (spells As)

    abbrev machine : (As : List (Arg 𝓛 n)) → Given As → List Val
    machine As x = flat (types_at (slots As) κs) (vals As x)

    tellss : (As : List (Arg 𝓛 n)) → Tellss (types_at (slots As) κs) (Ises (types_at (slots As) κs)) (spells As)
    tellss [] = tt
    tellss (a ∷ As) = (a.tells κs, tellss As)

    abbrev pub sees : (As : List (Arg 𝓛 n)) → Given As → Seen As
    sees [] x = tt
    sees (a ∷ As) x = (a.see κs x.0, sees As x.1)

    abbrev lasts_of : (As : List (Arg 𝓛 n)) (x : Given As) → Fins κs (slots As) (all yes (slots As)) x
    lasts_of [] x = tt
    lasts_of (a ∷ As) x = (a.last κs x.0, lasts_of As x.1)

    all_fit : (As : List (Arg 𝓛 n)) (x : Given As) → fits_of κs (slots As) (all yes (slots As)) (dropped As) x (lasts_of As x)
    all_fit [] x = tt
    all_fit (a ∷ As) x = (tt, all_fit As x.1)

    abbrev left : (As : List (Arg 𝓛 n)) (x : Given As) → Fml
    left As x = has_of κs (slots As) (all yes (slots As)) (dropped As) x (lasts_of As x) (vals As x)

    none_left : (As : List (Arg 𝓛 n)) (x : Given As) → ent 𝓤 (emp 𝓤) (sem 𝓛 (left As x))
    none_left [] x = id⊢ 𝓤 (emp 𝓤)
    none_left (a ∷ As) x = via 𝓤 _ (none_left As x.1) (emp∗ 𝓤 _)

    few : (As : List (Arg 𝓛 n)) → Short As → (x : Given As) → Are (types_at (slots As) κs) (Ises (types_at (slots As) κs)) x (vals As x)
        → Few (mirs As) (machine As x)
    few [] t x is = none
    few (a ∷ []) t x is = one _ _ (a.typed κs x.0 is.0)
    few (a ∷ b ∷ []) t x is = two _ _ _ _ (a.typed κs x.0 is.0) (b.typed κs x.1.0 is.1.0)
    few (a ∷ b ∷ c ∷ []) t x is = three _ _ _ _ _ _ (a.typed κs x.0 is.0) (b.typed κs x.1.0 is.1.0) (c.typed κs x.1.1.0 is.1.1.0)
    few (a ∷ b ∷ c ∷ d ∷ As) t x is = absurd t

    -- the same at the method
    module _ (α : ℕ) where
      abbrev tos : (As : List (Arg 𝓛 n)) → Given As → Denots (types_at (inners As) (α ∷ [], κs))
      tos [] x = tt
      tos (a ∷ As) x = (a.to κs α x.0, tos As x.1)

      abbrev inner_vals : (As : List (Arg 𝓛 n)) → Given As → Valss (types_at (inners As) (α ∷ [], κs))
      inner_vals [] x = tt
      inner_vals (a ∷ As) x = (a.val κs x.0 ∷ [], inner_vals As x.1)

      flats : (As : List (Arg 𝓛 n)) (x : Given As) → machine As x ≡ flat (types_at (inners As) (α ∷ [], κs)) (inner_vals As x)
      flats [] x = refl
      flats (a ∷ As) x = ap (λ us. a.val κs x.0 ∷ us) (flats As x.1)

      owns_are : (As : List (Arg 𝓛 n)) (x : Given As)
          → owns (types_at (slots As) κs) x (vals As x) ≡ owns (types_at (inners As) (α ∷ [], κs)) (tos As x) (inner_vals As x)
      owns_are [] x = refl
      owns_are (a ∷ As) x = ap (λ F. fsep F (owns (types_at (slots As) κs) x.1 (vals As x.1))) (a.are κs α x.0)
          ∙ ap (λ F. fsep ((a.inner.row (α ∷ [], κs)).own_val (a.to κs α x.0) (a.val κs x.0 ∷ [])) F) (owns_are As x.1)

  abbrev pub sees_inner : (κs : Lfts (suc n)) (As : List (Arg 𝓛 n)) → Denots (types_at (inners As) κs) → Seen As
  sees_inner κs [] x = tt
  sees_inner κs (a ∷ As) x = (a.see_inner κs x.0, sees_inner κs As x.1)

  seen_same : (κs : Lfts n) (α : ℕ) (As : List (Arg 𝓛 n)) (x : Given κs As) → sees_inner (α ∷ [], κs) As (tos κs α As x) ≡ sees κs As x
  seen_same κs α [] x = refl
  seen_same κs α (a ∷ As) x = ap (λ y. (y, sees_inner (α ∷ [], κs) As (tos κs α As x.1))) (a.seen κs α x.0)
      ∙ ap (λ ys. (a.see κs x.0, ys)) (seen_same κs α As x.1)

-- bytes, another reference and a number
module _ {M : Type 1} {𝓤 : Ura M} (𝓛 : Logic 𝓤) where
  abbrev pub bytes : Arg 𝓛 1
  bytes = record {
    slot = SliceRefOf (0 ∷ []) tt (plain (λ _. u8)) (λ _. tt);
    inner = SliceRefOf (1 ∷ []) tt (plain (λ _. u8)) (λ _. tt);
    type = lone (ShrSlice (named 0) [] u8).mir;
    X = List ℕ;
    see = λ κs x. x.now;
    see_inner = λ κs x. x.now;
    to = λ κs α x. x;
    seen = λ κs α x. refl;
    val = λ κs x. slice_val x.ref_ptr (length x.now);
    are = λ κs α x. refl;
    tells = λ κs. shr_slice_Tells (named 0) κs.0 u8;
    typed = λ κs x is. ((shr_slice_Lawful 𝓛 (named 0) κs.0 u8).typed x _ is).0;
    last = λ κs x. tt;
    goes = Goes-dropped 𝓛 1 (SliceRefOf (0 ∷ []) tt (plain (λ _. u8)) (λ _. tt)) yes (λ κs x w. refl);
  }

  abbrev pub at : (S : RattleType) → ((κs : Lfts 1) → Alone S.mir) → ((κs : Lfts 2) → Alone S.mir) → Arg 𝓛 1
  at S alone alone' = record {
    slot = RefOf (0 ∷ []) tt (plain (λ _. S)) alone;
    inner = RefOf (1 ∷ []) tt (plain (λ _. S)) alone';
    type = lone (ShrRef (named 0) [] S).mir;
    X = S.Denot;
    see = λ κs x. x.now;
    see_inner = λ κs x. x.now;
    to = λ κs α x. x;
    seen = λ κs α x. refl;
    val = λ κs x. vptr x.ref_ptr.0 x.ref_ptr.1;
    are = λ κs α x. refl;
    tells = λ κs. shr_Tells (named 0) κs.0 S;
    typed = λ κs x is. ((shr_Lawful 𝓛 (named 0) κs.0 S).typed x _ is).0;
    last = λ κs x. tt;
    goes = Goes-dropped 𝓛 1 (RefOf (0 ∷ []) tt (plain (λ _. S)) alone) yes (λ κs x w. refl);
  }

  abbrev pub uint : Width → Arg 𝓛 0
  uint w = record {
    slot = plain (λ _. UInt w);
    inner = plain (λ _. UInt w);
    type = ty_int w;
    X = ℕ;
    see = λ κs x. x;
    see_inner = λ κs x. x;
    to = λ κs α x. x;
    seen = λ κs α x. refl;
    val = λ κs x. vint w x;
    are = λ κs α x. refl;
    tells = λ κs. uint_Tells w;
    typed = λ κs x is. ((uint_Lawful 𝓛 w).typed x _ is).0;
    last = λ κs x. tt;
    goes = Goes-dropped 𝓛 0 (plain (λ _. UInt w)) yes (λ κs x w. refl);
  }

  -- a depth and a place
  abbrev pub numbers : List (Arg 𝓛 0)
  numbers = uint w32 ∷ uint w64 ∷ []

  abbrev pub are_made : Makess 𝓛 (UInt w32 ∷ UInt w64 ∷ []) (Is (UInt w32), (Is (UInt w64), tt))
  are_made = (uint_Makes 𝓛 w32, (uint_Makes 𝓛 w64, tt))

-- ---- the calls

module _ {M : Type 1} (𝓤 : Ura M) (𝓛 : Logic 𝓤) (𝓜 : Model 𝓤 𝓛.H) (𝓡 : Running 𝓤 𝓛.H 𝓜) where
  abbrev 𝓣 : MachineTables 𝓤 𝓛.H 𝓜
  𝓣 = tables 𝓤 𝓛.H 𝓜 𝓡 𝓡.env

  -- the call of a function that takes values alone
  module _ (As : List (Arg 𝓛 0)) (Res : RattleType) (Said : Seen 𝓛 As → Res.Denot → Type 0) where
    abbrev pub plainly : Ended
    plainly = record { signature = record { lifetimes = 0; outlives = []; params = slots 𝓛 As; result = plain (λ _. Res) }; kept = all yes (slots 𝓛 As) }

    abbrev pub saying : Clauses 𝓤 plainly
    saying κs a = record { ghost = Unit {0}; requires = λ _. sem 𝓛 ftrue; ensures = λ _ at e. fact 𝓤 (Said (sees 𝓛 κs As a) at) }

    pub asks : Lawful 𝓛 Res → (k : Callee) → Meets 𝓛 plainly.signature (𝓣.C k) (closing 𝓛 plainly saying) → (x : Given 𝓛 tt As)
        → ent 𝓤 (emp 𝓤) (sem 𝓛 (owns (types_at (slots 𝓛 As) tt) x (vals 𝓛 tt As x))) → (Γ : List (Item 𝓤)) (E : Env 𝓤 𝓛.H) (q : Post 𝓤 𝓛.H)
        (ops : List Operand) (d : Place) (rest : Body) → ((i : Item 𝓤) → Opds Go 𝓛 (i ∷ Γ) E ops (machine 𝓛 tt As x))
        → ((v : Val) (at : Res.Denot) → Said (sees 𝓛 tt As x) at → Ok (lone Res.mir) v
        → Sq 𝓛 (‵ (Res.own_val at (v ∷ [])) ∷ Γ) (lands 𝓣.C 𝓣.Λ E d v rest q)) → Sq 𝓛 Γ (runs 𝓣.C 𝓣.Λ E (seq (call k ops d) rest) q)
    asks lawful k met x makes Γ E q ops d rest reads go =
        let N = triple_of 𝓛 plainly.signature (closing 𝓛 plainly saying) in
        let z : N.Ghost = ((tt, tt, tt, x, vals 𝓛 tt As x), tt) in
        use0 𝓛 (‵ (owns (types_at (slots 𝓛 As) tt) x (vals 𝓛 tt As x))) makes $ nothing ! $ join ! $ nothing ! $ move ! (1 ∷ 0 ∷ []) $
        use2 𝓛 (raw (N.pre z)) (id⊢ 𝓤 _) $ calls_at ! (framed 𝓤 𝓛.H 𝓜 𝓣) N met z (reads (raw (N.pre z))) (λ v.
        use1 𝓛 (later (some (λ (at : Res.Denot). (‵ ftrue ⊛ ‵ (Res.own_val at (v ∷ []))) ⊛
        some (λ (ws : Fins tt (slots 𝓛 As) (all yes (slots 𝓛 As)) x). ‵ (lasts plainly tt x ws) ⊛ raw (fact 𝓤 (Said (sees 𝓛 tt As x) at)))))) (id⊢ 𝓤 _) $
        await ! tt $ pick ! (λ at. split ! $ split ! $ drop ! $ move ! (1 ∷ []) $ pick ! (λ ws. split ! $ drop ! $ heard ! _ (λ said.
        peeks ! Res (Is Res) (shows 𝓛 Res) at (v ∷ []) (λ is. go v at said (typed_alone Res.mir v (lawful.typed at _ is)))))))

  -- what a call answers, and how it answers at null
  pub record Answer : Type 2 where
    pub Out : RattleType
    pub lawful : Lawful 𝓛 Out
    pub null : Out.Denot → Type 0
    pub code : Body
    pub goes : (n : ℕ) (Kf : Val → SProp 𝓤) (Γ : List (Item 𝓤)) (E : Env 𝓤 𝓛.H) (q : Post 𝓤 𝓛.H) → Lands 𝓛 𝓣.C 𝓣.Λ n (lone Out.mir) code Kf Γ E q
        → Puts 𝓛 𝓣.C 𝓣.Λ n (lone Out.mir) code Kf Γ E q → (k : Item 𝓤)
        → ((v : Val) (at : Out.Denot) → null at → Sq 𝓛 ((‵ (Out.own_val at (v ∷ [])) ⊛ k) ∷ []) (prop (Kf v)))
        → Sq 𝓛 (k ∷ Γ) (runs 𝓣.C 𝓣.Λ E (seq code return) q)

  -- a number
  abbrev pub number : (Out : RattleType) → Lawful 𝓛 Out → Makes 𝓛 Out (Is Out) → (w : Width) (m : ℕ) → T (ltb m (2 ^ bits w)) → (at : Out.Denot)
      → Is Out at (vint w m ∷ []) → (null : Out.Denot → Type 0) → null at → Answer
  number Out lawful makes w m low at is null it = record {
    Out = Out;
    lawful = lawful;
    null = null;
    code = assign (place 0 []) (rv_opd (int w m));
    goes = λ n Kf Γ E q well puts k ends. owned ! Out _ makes at _ is $ join !
        $ puts w m _ low (typed_alone Out.mir (vint w m) (lawful.typed at _ is)) (ends (vint w m) at it);
  }

  -- what a function gives
  abbrev pub refusal : (Out : RattleType) → Lawful 𝓛 Out → (null : Out.Denot → Type 0) (As : List (Arg 𝓛 0)) (x : Given 𝓛 tt As) (ops : List Operand)
      → ent 𝓤 (emp 𝓤) (sem 𝓛 (owns (types_at (slots 𝓛 As) tt) x (vals 𝓛 tt As x)))
      → ((Γ : List (Item 𝓤)) (E : Env 𝓤 𝓛.H) → Opds Go 𝓛 Γ E ops (machine 𝓛 tt As x)) → (Said : Seen 𝓛 As → Out.Denot → Type 0)
      → ((at : Out.Denot) → Said (sees 𝓛 tt As x) at → null at) → (k : Callee)
      → Meets 𝓛 (plainly As Out Said).signature (𝓣.C k) (closing 𝓛 (plainly As Out Said) (saying As Out Said)) → Answer
  refusal Out lawful null As x ops makes reads Said so k met = record {
    Out = Out;
    lawful = lawful;
    null = null;
    code = call k ops (place 0 []);
    goes = λ n Kf Γ E q well puts i ends. asks As Out Said lawful k met x makes (i ∷ Γ) E q ops (place 0 []) return (λ j. reads (j ∷ i ∷ Γ) E)
        (λ v at said ok. join ! $ well v _ ok (ends v at (so at said)));
  }

  -- what it gives at the status that says so
  abbrev pub refused : {Out : RattleType} → Lawful 𝓛 Out → (gives : ℕ → Out.Denot) (k : Callee) → Meets 𝓛 (plainly (uint 𝓛 w32 ∷ []) Out (λ x at. at ≡ gives x.0)).signature
      (𝓣.C k) (closing 𝓛 (plainly (uint 𝓛 w32 ∷ []) Out (λ x at. at ≡ gives x.0)) (saying (uint 𝓛 w32 ∷ []) Out (λ x at. at ≡ gives x.0))) → Answer
  refused {Out = Out} lawful gives = refusal Out lawful (λ at. at ≡ gives 4) (uint 𝓛 w32 ∷ []) (4, tt) (int w32 4 ∷ [])
      (owns_make 𝓛 (u32 ∷ []) (Is u32, tt) (uint_Makes 𝓛 w32, tt) (4, tt) (vint w32 4 ∷ [], tt) ((refl, lit< tt), tt)) (λ Γ E. and_then ! (lit ! tt) (no_more !))
      (λ x at. at ≡ gives x.0) (λ at it. it)

  abbrev pub nothing_told : {Out : RattleType} → Lawful 𝓛 Out → (none : Out.Denot) (k : Callee) → Meets 𝓛 (plainly [] Out (λ x at. at ≡ none)).signature (𝓣.C k)
      (closing 𝓛 (plainly [] Out (λ x at. at ≡ none)) (saying [] Out (λ x at. at ≡ none))) → Answer
  nothing_told {Out = Out} lawful it = refusal Out lawful (λ at. at ≡ it) [] tt [] (id⊢ 𝓤 (emp 𝓤)) (λ Γ E. no_more !) (λ x at. at ≡ it) (λ at is. is)

  module _ (n : ℕ) (As : List (Arg 𝓛 n)) (short : Short 𝓛 As) (R : RattleType) (answer : Answer) (G : Type 0) (before : Ptr → G → Fml)
      (told : Seen 𝓛 As → G → answer.Out.Denot → R.Denot → Type 0) where
    open answer use {Out, lawful, null}

    -- the contract of the call
    abbrev pub outer : Ended
    outer = record {
      signature = record { lifetimes = n; outlives = []; params = plain (λ _. RawPtr) ∷ slots 𝓛 As; result = plain (λ _. Out) };
      kept = (yes, all yes (slots 𝓛 As));
    }

    abbrev pub c : Clauses 𝓤 outer
    c κs a = record {
      ghost = G;
      requires = λ g. sep 𝓤 (fact 𝓤 (Testable a.0)) (sem 𝓛 (if_non_null a.0 (before a.0 g)));
      ensures = λ g at e. Leaves 𝓛 R a.0 (null at) (told (sees 𝓛 κs As a.1) g at);
    }

    abbrev stayed : Stays outer.signature.params outer.kept
    stayed = (stay_dropped _ yes, dropped 𝓛 As)

    abbrev W : Contract 𝓤
    W = walk_of 𝓛 outer stayed c

    module _ (κs : Lfts n) (qs : Shares n) (bounds : AllOutlive n [] κs) (x : Given 𝓛 κs As) (g : G) where
      abbrev y : Ptr → W.Ghost
      y p = ((κs, qs, bounds, (p, x), (rawptr_vals p, vals 𝓛 κs As x)), g)

      abbrev Runs : Fn → Ptr → Goal 𝓤 𝓛.H
      Runs f p = prop (WpFn 𝓤 𝓛.H 𝓣.C 𝓣.Λ f (ptr_val p ∷ machine 𝓛 κs As x) (W.post (y p)))

      abbrev Owned : Fml
      Owned = owns (types_at (slots 𝓛 As) κs) x (vals 𝓛 κs As x)

      abbrev Tokens : Item 𝓤
      Tokens = raw (toks 𝓛 n κs qs)

      abbrev Left : Ptr → Out.Denot → Item 𝓤
      Left p at = raw (Leaves 𝓛 R p (null at) (told (sees 𝓛 κs As x) g at))

      ends : (p : Ptr) (v : Val) (at : Out.Denot) → Sq 𝓛 ((‵ (Out.own_val at (v ∷ [])) ⊛ Tokens ⊛ Left p at) ∷ []) (prop (W.post (y p) v))
      ends p v at = split ! $ move ! (1 ∷ []) $ split ! $
          suffices ! _ (ends_at 𝓛 outer stayed c (y p) v at (tt, lasts_of 𝓛 κs As x) (tt, all_fit 𝓛 κs As x)) $
          use0 𝓛 (‵ (left 𝓛 κs As x)) (none_left 𝓛 κs As x) $ nothing ! $ join ! $ move ! (1 ∷ 0 ∷ 3 ∷ 2 ∷ []) $ group ! 3 $ done !

    whole : (last : Ty) (rest : Body) (name : Callee) → Closed 𝓤 𝓛.H 𝓣.C 𝓣.Λ name (function n (lone Out.mir) (mirs 𝓛 As) last answer.code rest)
        → ((κs : Lfts n) (qs : Shares n) (bounds : AllOutlive n [] κs) (x : Given 𝓛 κs As) (g : G)
        → Are (types_at (slots 𝓛 As) κs) (Ises (types_at (slots 𝓛 As) κs)) x (vals 𝓛 κs As x) → (b o : ℕ)
        → Testable (block_ptr b o) → Sq 𝓛 (‵ (before (block_ptr b o) g) ∷ ‵ (Owned κs qs bounds x g) ∷ Tokens κs qs bounds x g ∷ [])
        (Runs κs qs bounds x g (function n (lone Out.mir) (mirs 𝓛 As) last answer.code rest) (block_ptr b o)))
        → Meets 𝓛 outer.signature (𝓣.C name) (closing 𝓛 outer c)
    whole last rest name closed elsewhere = let f = function n (lone Out.mir) (mirs 𝓛 As) last answer.code rest in
        proved 𝓛 outer stayed c 𝓜 𝓡 (Goes-dropped 𝓛 n (plain (λ _. RawPtr)) yes (λ κs x w. refl), all_go 𝓛 As) name f closed
        (λ κs. (rawptr_vals, spells 𝓛 κs As)) (λ κs. (rawptr_Tells, tellss 𝓛 κs As)) (λ κs qs bounds a g are.
        let p = a.0 in let x = a.1 in let fits = few 𝓛 κs As short x are.1 in
        qed 𝓛 ((Tokens κs qs bounds x g ⊛ ‵ (RawPtr.own_val p (rawptr_vals p)) ⊛ ‵ (Owned κs qs bounds x g))
        ∷ (raw (fact 𝓤 (Testable p)) ⊛ ‵ (if_non_null p (before p g))) ∷ []) ∵
        split ! $ move ! (1 ∷ []) $ split ! $ drop ! $ move ! (2 ∷ []) $ split ! $ heard ! _ (λ may.
        -- [what lies there; the arguments; the tokens]
        by_form p (λ p. if_non_null p (before p g))
        (λ e. drop ! $ drop ! $ regoal ! (Runs κs qs bounds x g f) e refl $
        at_null_first 𝓛 𝓣.C 𝓣.Λ n (lone Out.mir) answer.code (W.post (y κs qs bounds x g null_ptr)) fits last rest (Tokens κs qs bounds x g) (λ Γ E q well puts.
        answer.goes n (W.post (y κs qs bounds x g null_ptr)) Γ E q well puts (Tokens κs qs bounds x g) (λ v at it.
        split ! $ use0 𝓛 (raw (fact 𝓤 (null at))) (fact_i 𝓤 _ (emp 𝓤) it) $ move ! (1 ∷ 2 ∷ 0 ∷ []) $ group ! 3 $ ends κs qs bounds x g null_ptr v at)))
        (λ b o e. regoal ! (Runs κs qs bounds x g f) e refl $ elsewhere κs qs bounds x g are.1 b o (subst Testable e may))))

  -- the method is called
  module _ (n : ℕ) (As : List (Arg 𝓛 n)) (short : Short 𝓛 As) (R : RattleType) (answer : Answer)
      (told : Seen 𝓛 As → R.Denot → answer.Out.Denot → R.Denot → Type 0) where
    open answer use {Out, lawful, null, code}

    abbrev pub lies : Ptr → R.Denot → Fml
    lies p held = lies_at R full_share p held

    abbrev pub inner : Ended
    inner = record {
      signature = record { lifetimes = suc n; outlives = []; params = mut_ref_to (0 ∷ []) tt (plain (λ _. R)) ∷ inners 𝓛 As; result = plain (λ _. Out) };
      kept = (yes, all yes (inners 𝓛 As));
    }

    abbrev pub method : Clauses 𝓤 inner
    method κs a = record { ghost = Unit {0}; requires = λ _. sem 𝓛 ftrue; ensures = λ _ at e. fact 𝓤 (told (sees_inner 𝓛 κs As a.1) a.0.now at e.0.now) }

    pub calls : (k name : Callee) → Meets 𝓛 inner.signature (𝓣.C k) (closing 𝓛 inner method)
        → Closed 𝓤 𝓛.H 𝓣.C 𝓣.Λ name (function n (lone Out.mir) (mirs 𝓛 As) (ty_ref erased mut (pointee R.written)) code (lending k (mirs 𝓛 As) (lone R.mir)))
        → Meets 𝓛 (outer n As short R answer R.Denot lies told).signature (𝓣.C name)
        (closing 𝓛 (outer n As short R answer R.Denot lies told) (c n As short R answer R.Denot lies told))
    calls k name met closed = whole n As short R answer R.Denot lies told _ _ name closed (λ κs qs bounds x held are b o may.
        lent_first 𝓛 𝓣.C 𝓣.Λ n (lone Out.mir) code _ (few 𝓛 κs As short x are) (lone R.mir) (pointee R.written) k b o may _ _ _ (λ Γ E q well reads.
        lft_new ! tt (λ α. move ! (1 ∷ []) $
        use1 𝓛 (later (some (λ (γ : ℕ). ‵ ((MutRef (named 0) (α ∷ []) R).own_val (record { ref_ptr = (b, o); ghost_name = γ; now = held }) (vptr b o ∷ []))
        ⊛ ‵ (flent (α ∷ []) (Inside (mem R) b o γ)))))
        (lends_ref 𝓛 R (named 0) (α ∷ []) held b o) $ await ! tt $ pick ! (λ γ. split ! $
        -- [the loan; what comes back; the token of α; the arguments; the tokens]
        let r : MutBor R.Denot = record { ref_ptr = (b, o); ghost_name = γ; now = held } in
        let κs' : Lfts (suc n) = (α ∷ [], κs) in
        let x' = tos 𝓛 κs α As x in
        let vs' = inner_vals 𝓛 κs α As x in
        let N = triple_of 𝓛 inner.signature (closing 𝓛 inner method) in
        let z : N.Ghost = ((κs', (full_share, qs), bounds, (r, x'), (mut_vals r, vs')), tt) in
        let Told : Out.Denot → R.Denot → Type 0 = told (sees 𝓛 κs As x) held in
        move ! (3 ∷ []) $ use1 𝓛 (‵ (owns (types_at (inners 𝓛 As) κs') x' vs'))
        (subst (λ (F : Fml). ent 𝓤 (sem 𝓛 (owns (types_at (slots 𝓛 As) κs) x (vals 𝓛 κs As x))) (sem 𝓛 F)) (owns_are 𝓛 κs α As x) (id⊢ 𝓤 _)) $
        move ! (1 ∷ 0 ∷ []) $ join ! $ move ! (2 ∷ 3 ∷ []) $ join ! $ join ! $
        nothing ! $ move ! (1 ∷ 0 ∷ []) $ use2 𝓛 (raw (N.pre z)) (id⊢ 𝓤 _) $
        calls_at ! (framed 𝓤 𝓛.H 𝓜 𝓣) N met z
        (subst (λ (us : List Val). Opds Go 𝓛 (raw (N.pre z) ∷ ‵ (flent (α ∷ []) (Inside (mem R) b o γ)) ∷ Γ) E (operands (mirs 𝓛 As)) (vptr b o ∷ us))
        (flats 𝓛 κs α As x) (reads (raw (N.pre z)) (‵ (flent (α ∷ []) (Inside (mem R) b o γ))))) (λ v.
        use1 𝓛 (later (some (λ (at : Out.Denot). ((‵ (flft (α ∷ []) full_share) ⊛ raw (toks 𝓛 n κs qs)) ⊛ ‵ (Out.own_val at (v ∷ []))) ⊛
        some (λ (ws : R.Denot × Fins κs' (inners 𝓛 As) (all yes (inners 𝓛 As)) x'). ‵ (lasts inner κs' (r, x') ws)
        ⊛ raw (fact 𝓤 (told (sees_inner 𝓛 κs' As x') held at ws.0)))))) (id⊢ 𝓤 _) $
        await ! tt $ pick ! (λ at. split ! $ split ! $ split ! $ lft_end ! tt $ move ! (3 ∷ []) $ pick ! (λ ws. split ! $ fsplit ! $ fsplit ! $
        move ! (3 ∷ []) $ heard ! _ (λ it.
        -- [the loan's last value; its borrow; the rest; α is over; the tokens; the result; what comes back]
        move ! (3 ∷ 6 ∷ 0 ∷ []) $ use3 𝓛 (later (‵ ((mem R).own_at ws.0 b o))) (ref_back 𝓛 R (α ∷ []) γ ws.0 b o) $ await ! tt $
        -- [the handle; its borrow; the rest; the tokens; the result]
        use0 𝓛 (raw (fact 𝓤 (Told at ws.0)))
        (fact_i 𝓤 _ (emp 𝓤) (subst (λ (s : Seen 𝓛 As). told s held at ws.0) (seen_same 𝓛 κs α As x) it)) $ move ! (1 ∷ 0 ∷ []) $ join ! $
        use1 𝓛 (raw (Leaves 𝓛 R (block_ptr b o) (null at) (Told at))) (ex_i 𝓤 (λ (new : R.Denot).
        sep 𝓤 (sem 𝓛 (lies_at R full_share (block_ptr b o) new)) (fact 𝓤 (Told at new))) ws.0) $
        move ! (1 ∷ []) $ drop ! $ move ! (1 ∷ []) $ drop ! $ move ! (2 ∷ []) $
        peeks ! Out (Is Out) (shows 𝓛 Out) at (v ∷ []) (λ is. move ! (0 ∷ 2 ∷ 1 ∷ []) $ group ! 3 $
        well v _ (typed_alone Out.mir v (lawful.typed at _ is))
        (ends n As short R answer R.Denot lies told κs qs bounds x held (block_ptr b o) v at))))))))))

  -- 0 at null, or the status that says so
  abbrev pub zero_at_null : (w : Width) → T (ltb 0 (2 ^ bits w)) → Answer
  zero_at_null w low = number (UInt w) (uint_Lawful 𝓛 w) (uint_Makes 𝓛 w) w 0 low 0 (refl, lit< low) (λ at. at ≡ 0) refl

  abbrev pub status : Answer
  status = number u32 (uint_Lawful 𝓛 w32) (uint_Makes 𝓛 w32) w32 4 tt 4 (refl, lit< tt) (λ at. at ≡ 4) refl

  -- a handle is begun: what the first function gives is written, and then the second tells the status
  module _ (As : List (Arg 𝓛 0)) (short : Short 𝓛 As) (enough : T (ltb 1 (count (mirs 𝓛 As))))
      (makes : Makess 𝓛 (types_at (slots 𝓛 As) tt) (Ises (types_at (slots 𝓛 As) tt))) {R : RattleType} (lawful : Lawful 𝓛 R) (one : One R)
      (made : Seen 𝓛 As → R.Denot → Type 0) (rated : Seen 𝓛 As → ℕ → Type 0) where
    abbrev pub room : Ptr → Unit {0} → Fml
    room p g = room_at R p

    abbrev pub begun : Seen 𝓛 As → Unit {0} → ℕ → R.Denot → Type 0
    begun x g st new = made x new × rated x st

    pub begins : (k s name : Callee) → Meets 𝓛 (plainly As R made).signature (𝓣.C k) (closing 𝓛 (plainly As R made) (saying As R made))
        → Meets 𝓛 (plainly As u32 rated).signature (𝓣.C s) (closing 𝓛 (plainly As u32 rated) (saying As u32 rated))
        → Closed 𝓤 𝓛.H 𝓣.C 𝓣.Λ name (function 0 (ty_int w32) (mirs 𝓛 As) (lone R.mir) status.code (beginning k s (mirs 𝓛 As) (lone R.mir)))
        → Meets 𝓛 (outer 0 As short R status (Unit {0}) room begun).signature (𝓣.C name)
        (closing 𝓛 (outer 0 As short R status (Unit {0}) room begun) (c 0 As short R status (Unit {0}) room begun))
    begins k s name met status_met closed = whole 0 As short R status (Unit {0}) room begun _ _ name closed (λ κs qs bounds x g are b o may.
        let owned = owns_make 𝓛 (types_at (slots 𝓛 As) tt) (Ises (types_at (slots 𝓛 As) tt)) makes x (vals 𝓛 tt As x) are in
        let Begun : ℕ → R.Denot → Type 0 = begun (sees 𝓛 κs As x) g in
        move ! (1 ∷ 2 ∷ []) $ drop ! $ drop ! $
        begun_first 𝓛 𝓣.C 𝓣.Λ 0 (ty_int w32) status.code _ (few 𝓛 κs As short x are) enough (lone R.mir) k s b o may (λ Γ E q reads stores.
        asks As R made lawful k met x owned _ E q _ _ _ (λ i. reads i _) (λ v h it ok. stores v _ ok (λ Γ' well again.
        -- [the handle; the room]
        move ! (1 ∷ 0 ∷ []) $ use2 𝓛 (‵ (part_at R full_share h b o)) (part_in 𝓛 R one full_share h b o v) $
        asks As u32 rated (uint_Lawful 𝓛 w32) s status_met x owned _ E q _ _ _ (λ i. again i _) (λ u st rate fits.
        -- [the status; the handle]
        use0 𝓛 (raw (fact 𝓤 (Begun st h))) (fact_i 𝓤 _ (emp 𝓤) (it, rate)) $ move ! (2 ∷ 0 ∷ []) $ join ! $
        use1 𝓛 (raw (Leaves 𝓛 R (block_ptr b o) (st ≡ 4) (Begun st))) (ex_i 𝓤 (λ (new : R.Denot).
        sep 𝓤 (sem 𝓛 (lies_at R full_share (block_ptr b o) new)) (fact 𝓤 (Begun st new))) h) $
        use0 𝓛 (raw (toks 𝓛 0 κs qs)) (id⊢ 𝓤 (emp 𝓤)) $ move ! (2 ∷ 0 ∷ 1 ∷ []) $ group ! 3 $
        well u _ fits (ends 0 As short R status (Unit {0}) room begun κs qs bounds x g (block_ptr b o) u st))))))

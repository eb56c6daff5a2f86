-- The refusal of an input is decided by its longest prefix that is viable, and there is one refusal or an admitted text.
use Rattle.gj_json.proofs.Common.{Allowed, Bool, Cause, Depth, FitsLeaf, IsAdmitted, IsRefusal, IsText, IsViable, IsViableWithin, JsonFault, Length}
use Rattle.gj_json.proofs.Common.{List, None, Option, RefusedFor, Some, Syntax, Text, Tree, Truncated, ap, append_assoc, arith, broken_depth}
use Rattle.gj_json.proofs.Common.{constant, depth, drop, eqb_tells, false, finish, finish_leaf, get_or, if◌then◌else◌, inl, inr, length}
use Rattle.gj_json.proofs.Common.{length-take-le, min, refl, run, subst, suc, sym, take-append-drop, take-take, text_with, true, zero, ℕ, [], ◌++◌}
use Rattle.gj_json.proofs.Common.{◌+◌, ◌<◌, ◌↔◌, ◌∙◌, ◌∷◌, ◌≡◌, ◌≢◌, ◌≤◌, ◌⊎◌}
use Rattle.std.proofs.Common.{take}
use Rattle.std.proofs.Common.{drop-cons}
use Rattle.std.proofs.lemmas.List.{length-append, take_at, take_all, append-nil}
use Rattle.std.proofs.lemmas.Bool.Decides.{leb_tells}
use Rattle.gj_json.specs.Tree.{number}
use Rattle.gj_json.specs.Text.{IsTextWithin}
use Rattle.gj_json.specs.Refusal.{Stops}
use Rattle.gj_json.specs.Longest.{IsLongest, IsToldBy}
use Rattle.gj_json.specs.Internal.TextMachine.{Broken, text_due, mark_one, mark_two, begun, Frame, Leaf, value_done, constant_on, number_on, is_number}
use Rattle.gj_json.proofs.Machine.CompletableStates.{FitsRun, viable_fits, fits_viable}
use Rattle.gj_json.proofs.Machine.StateDepths.{broken_fits, fit_broken}
use Rattle.gj_json.proofs.Machine.ReachedStates.{reached}
use Rattle.gj_json.proofs.Readers.ReadBytes.{some_viable, well_viable, none_viable}
use Rattle.gj_json.proofs.Machine.MachineTexts.{Finishes, text_finishes, finishes_text}

-- ---- what is viable is shown by the machine's run

pub viable_or_not : (d : ℕ) (bytes : List ℕ) → IsViableWithin d bytes ⊎ (IsViableWithin d bytes → ⊥)
viable_or_not d bytes = go (run bytes) refl
  where
    go : (o : Option Broken) → run bytes ≡ o → IsViableWithin d bytes ⊎ (IsViableWithin d bytes → ⊥)
    go None e = inr (λ v. none_viable bytes e (v.0, v.1, v.2.0))
    go (Some s) e = elim (leb_tells (broken_depth s) d) [
      | inl l ↦ inl (well_viable d bytes s e (fit_broken d s l.1))
      | inr l ↦ inr (λ v. let f : FitsRun d (Some s) = (let g = viable_fits d bytes v in rw e at g) in omega (arith, l.1, broken_fits d s f))
    ]

pub any_viable_or_not : (bytes : List ℕ) → IsViable bytes ⊎ (IsViable bytes → ⊥)
any_viable_or_not bytes = go (run bytes) refl
  where
    go : (o : Option Broken) → run bytes ≡ o → IsViable bytes ⊎ (IsViable bytes → ⊥)
    go None e = inr (none_viable bytes e)
    go (Some s) e = let r = reached bytes s e in inl (some_viable (r.depth + 0) bytes s e (r.fits 0))

finish_fits : (d : ℕ) (stack : List Frame) (leaf : Leaf) (T : Tree) (n : ℕ) → finish_leaf stack leaf n ≡ Some T → FitsLeaf d stack leaf → depth T ≤ d
finish_fits d [] (value_done t) T n e f = let g : t ≡ T = cc in let k : depth t ≡ depth T = ap depth g in omega (arith, f.0)
finish_fits d [] (constant_on which place []) T n e f = let k : 0 ≡ depth T = (let g : constant which place ≡ T = cc in ap depth g) in omega arith
finish_fits d [] (number_on place so_far) T n e f = go (is_number so_far) e
  where
    go : (may_end : Bool) → (if may_end then Some (number place so_far n) else None) ≡ Some T → depth T ≤ d
    go true e = let k : 0 ≡ depth T = (let g : number place so_far n ≡ T = cc in ap depth g) in omega arith
    go false e = cc
finish_fits d _ _ T n e f = cc

-- a text is no deeper than its bytes are viable within
pub no_deeper : (d : ℕ) (T : Text) (bytes : List ℕ) → IsText T bytes → IsViableWithin d bytes → depth T.value ≤ d
no_deeper d T bytes h v = go (run bytes) (text_finishes T bytes h) (viable_fits d bytes v)
  where
    within : (marked : Bool) (o : Option Tree) → text_with marked o ≡ Some T → o ≡ Some T.value
    within marked None e = cc
    within marked (Some t) e = let f : record { marked = marked; value = t } ≡ T = cc in ap (λ (x : Text). Some x.value) f

    go : (o : Option Broken) → Finishes T (length bytes) o → FitsRun d o → depth T.value ≤ d
    go None e f = absurd f
    go (Some text_due) e f = cc
    go (Some mark_one) e f = cc
    go (Some mark_two) e f = cc
    go (Some (begun marked s)) e f = finish_fits d s.stack s.leaf T.value (length bytes) (within marked (finish_leaf s.stack s.leaf (length bytes)) e) f

pub text_or_not : (bytes : List ℕ) → ((text : Text) × IsText text bytes) ⊎ ((text : Text) → IsText text bytes → ⊥)
text_or_not bytes = go (run bytes) refl
  where
    ends : (o : Option Text) (s : Broken) → run bytes ≡ Some s → finish s (length bytes) ≡ o → ((text : Text) × IsText text bytes)
        ⊎ ((text : Text) → IsText text bytes → ⊥)
    ends (Some text) s e f = inl (text, finishes_text text bytes (let k : Finishes text (length bytes) (Some s) = f in rw e k))
    ends None s e f = inr
        (λ text h. let k : Finishes text (length bytes) (Some s) = (let g = text_finishes text bytes h in rw e at g) in let g : None ≡ Some text =
        sym f ∙ k in cc)

    go : (o : Option Broken) → run bytes ≡ o → ((text : Text) × IsText text bytes) ⊎ ((text : Text) → IsText text bytes → ⊥)
    go None e = inr (λ text h. let g = text_finishes text bytes h in let k : Finishes text (length bytes) None = rw e at g in k)
    go (Some s) e = ends (finish s (length bytes)) s e refl

-- ---- prefixes

pub front_viable : (d : ℕ) (bytes more : List ℕ) → IsViableWithin d (bytes ++ more) → IsViableWithin d bytes
front_viable d bytes more v = (more ++ v.0, v.1, ((rw append_assoc at v.2.0), v.2.1))

shorter_viable : (d m n : ℕ) (bytes : List ℕ) → m ≤ n → IsViableWithin d (take n bytes) → IsViableWithin d (take m bytes)
shorter_viable d m n bytes l v =
    let e : take n bytes ≡ take m bytes ++ drop m (take n bytes) =
    sym (take-append-drop m (take n bytes)) ∙ ap (λ xs. xs ++ drop m (take n bytes)) (take-take m n bytes l) in
    let P : List ℕ → Type 0 = λ xs. IsViableWithin d xs in
    front_viable d (take m bytes) (drop m (take n bytes)) (subst P e v)

-- the longest viable prefix among those of n bytes at most
abbrev Best : ℕ → List ℕ → ℕ → Type 0
Best d bytes n = (k : ℕ) × (k ≤ n) × IsViableWithin d (take k bytes) × ((m : ℕ) → m ≤ n → IsViableWithin d (take m bytes) → m ≤ k)

best : (d : ℕ) (bytes : List ℕ) (n : ℕ) → Best d bytes n
best d bytes zero = (0, omega arith, fits_viable d [] tt, λ m l v. l)
best d bytes (suc n) = go (best d bytes n) (viable_or_not d (take (suc n) bytes))
  where
    go : Best d bytes n → IsViableWithin d (take (suc n) bytes) ⊎ (IsViableWithin d (take (suc n) bytes) → ⊥) → Best d bytes (suc n)
    go b (inl v) = (suc n, omega arith, v, λ m l w. l)
    go b (inr never) = (
      b.0,
      omega (arith, b.1),
      b.2,
      λ m l w. elim (leb_tells m n) [
        | inl t ↦ b.3 m t.1 w
        | inr t ↦ absurd (never (let e : m ≡ suc n = omega (arith, t.1) in let P : ℕ → Type 0 = λ k. IsViableWithin d (take k bytes) in subst P e w))
      ],
    )

pub some_longest : (limits : Allowed) (bytes : List ℕ) → (k : ℕ) × IsLongest limits bytes k
some_longest limits bytes =
    let b = best limits.depth bytes (min (length bytes) limits.bytes) in
    (b.0, record { within = omega (arith, b.1); allowed = omega (arith, b.1); viable = b.2; longest = λ n l m v. b.3 n (omega arith) v })

pub one_longest : (limits : Allowed) (bytes : List ℕ) (k m : ℕ) → IsLongest limits bytes k → IsLongest limits bytes m → k ≡ m
one_longest limits bytes k m a b = omega (arith, a.longest m b.within b.allowed b.viable, b.longest k a.within a.allowed a.viable)

-- ---- where a byte is none_viable

pub record Fronts (bytes good : List ℕ) (byte place : ℕ) : Type 0 where
  pub before : take place bytes ≡ good
  pub through : take (place + 1) bytes ≡ good ++ byte ∷ []
  pub shorter : place < length bytes

fronts : (limits : Allowed) (bytes : List ℕ) (place : ℕ) (s : Stops limits bytes place) → Fronts bytes s.good s.byte place
fronts limits bytes place s =
    let e : bytes ≡ (s.good ++ s.byte ∷ []) ++ s.rest = s.split ∙ sym (append_assoc s.good (s.byte ∷ []) s.rest) in
    let l : length (s.good ++ s.byte ∷ []) ≡ place + 1 = omega (arith, length-append s.good (s.byte ∷ []), s.at) in
    record {
      before = ap (λ xs. take place xs) s.split ∙ take_at s.good (s.byte ∷ s.rest) place (sym s.at);
      through = ap (λ xs. take (place + 1) xs) e ∙ take_at (s.good ++ s.byte ∷ []) s.rest (place + 1) l;
      shorter = omega (arith, s.at, ap length s.split, length-append s.good (s.byte ∷ s.rest));
    }

stops : (limits : Allowed) (bytes : List ℕ) (k : ℕ) → k < length bytes → IsViableWithin limits.depth (take k bytes) → Stops limits bytes k
stops limits bytes k l v = record {
  good = take k bytes;
  byte = get_or bytes k 0;
  rest = drop (suc k) bytes;
  split = sym (take-append-drop k bytes) ∙ ap (λ xs. take k bytes ++ xs) (drop-cons bytes k 0 l);
  at = sym (length-take-le k bytes (omega arith));
  viable = v;
}

-- the first k bytes are viable, and no prefix that is longer
longest_at : (limits : Allowed) (bytes : List ℕ) (k : ℕ) → k ≤ length bytes → k ≤ limits.bytes → IsViableWithin limits.depth (take k bytes)
    → (IsViableWithin limits.depth (take (k + 1) bytes) → ⊥) → IsLongest limits bytes k
longest_at limits bytes k l m v never = record {
  within = l;
  allowed = m;
  viable = v;
  longest = λ n a b w. elim (leb_tells n k) [
    | inl t ↦ t.1
    | inr t ↦ absurd (never (shorter_viable limits.depth (k + 1) n bytes (omega (arith, t.1)) w))
  ];
}

stop_viable : (limits : Allowed) (bytes : List ℕ) (place : ℕ) → Stops limits bytes place → IsViableWithin limits.depth (take place bytes)
stop_viable limits bytes place s = let f = fronts limits bytes place s in let P : List ℕ → Type 0 =
    λ xs. IsViableWithin limits.depth xs in subst P (sym f.before) s.viable

-- a refusal is at the end of the longest viable prefix
pub refused_longest : (limits : Allowed) (bytes : List ℕ) (cause : Cause) (place : ℕ) → RefusedFor cause limits bytes place → IsLongest limits bytes place
refused_longest limits bytes Syntax place r =
    let f = fronts limits bytes place r.0 in
    let never : IsViable (take (place + 1) bytes) → ⊥ = rw (f.through) r.2 in
    longest_at limits bytes place (omega (arith, f.shorter)) (omega (arith, r.1)) (stop_viable limits bytes place r.0) (λ v. never (v.0, v.1, v.2.0))
refused_longest limits bytes Depth place r =
    let f = fronts limits bytes place r.0 in
    longest_at limits bytes place (omega (arith, f.shorter)) (omega (arith, r.1)) (stop_viable limits bytes place r.0) (rw (f.through) r.3)
refused_longest limits bytes Length place r =
    let f = fronts limits bytes place r.0 in
    record {
      within = omega (arith, f.shorter);
      allowed = omega (arith, r.1);
      viable = stop_viable limits bytes place r.0;
      longest =
          λ n a b w. omega (arith, r.1);
    }
refused_longest limits bytes Truncated place r = record {
  within = omega (arith, r.0);
  allowed = r.1;
  viable = (let P : List ℕ → Type 0 = λ xs. IsViableWithin limits.depth xs in subst P (sym (take_all place bytes (omega (arith, r.0)))) r.2);
  longest = λ n a b w. omega (arith, r.0);
}

whole_viable : (limits : Allowed) (bytes : List ℕ) (k : ℕ) → k ≡ length bytes → IsViableWithin limits.depth (take k bytes) → IsViableWithin limits.depth bytes
whole_viable limits bytes k e v = let P : List ℕ → Type 0 = λ xs. IsViableWithin limits.depth xs in subst P (take_all k bytes (omega arith)) v

-- ---- the four cases

module _ (limits : Allowed) (bytes : List ℕ) (k : ℕ) (h : IsLongest limits bytes k) where
  too_long : RefusedFor Length limits bytes k ↔ ((k ≡ limits.bytes) × (k < length bytes))
  too_long = (λ r. (r.1, (fronts limits bytes k r.0).shorter), λ r. (stops limits bytes k r.1 h.viable, r.0))

  too_deep : RefusedFor Depth limits bytes k ↔ ((k ≢ limits.bytes) × (k < length bytes) × IsViable (take (k + 1) bytes))
  too_deep = (
    λ r. let f = fronts limits bytes k r.0 in (omega (arith, r.1), f.shorter, rw (f.through) r.2),
    λ r. let s = stops limits bytes k r.1 h.viable in
        let f = fronts limits bytes k s in
        let never : IsViableWithin limits.depth (take (k + 1) bytes) → ⊥ =
        λ v. omega (arith, h.allowed, r.0, h.longest (k + 1) (omega (arith, r.1)) (omega (arith, h.allowed, r.0)) v) in
        (s, omega (arith, h.allowed, r.0), rw (← f.through) r.2, rw (← f.through) never),
  )

  wrong : RefusedFor Syntax limits bytes k ↔ ((k ≢ limits.bytes) × (k < length bytes) × (IsViable (take (k + 1) bytes) → ⊥))
  wrong = (
    λ r. let f = fronts limits bytes k r.0 in (omega (arith, r.1), f.shorter, rw (f.through) r.2),
    λ r. let s = stops limits bytes k r.1 h.viable in
        let f = fronts limits bytes k s in
        (s, omega (arith, h.allowed, r.0), rw (← f.through) r.2),
  )

  cut_off : RefusedFor Truncated limits bytes k ↔ ((k ≡ length bytes) × ((text : Text) → IsText text bytes → ⊥))
  cut_off = (
    λ r. (r.0, λ text t. r.3 text (t, no_deeper limits.depth text bytes t r.2)),
    λ r. (r.0, h.allowed, whole_viable limits bytes k r.0 h.viable, λ text t. r.1 text t.0),
  )

  whole_admitted : (text : Text) → IsAdmitted limits text bytes → k ≡ length bytes
  whole_admitted text a =
      let v : IsViableWithin limits.depth (take (length bytes) bytes) =
      (let P : List ℕ → Type 0 = λ xs. IsViableWithin limits.depth xs in subst P (sym (take_all (length bytes) bytes (omega arith)))
      ([], text, (let e : bytes ≡ bytes ++ [] = simp append-nil in let P : List ℕ → Type 0 = λ xs. IsTextWithin limits.depth text xs in subst P e a.0))) in
      omega (arith, h.within, h.longest (length bytes) (omega arith) a.1 v)

  admitted : ((text : Text) × IsAdmitted limits text bytes) ↔ ((k ≡ length bytes) × ((text : Text) × IsText text bytes))
  admitted = (
    λ a. (whole_admitted a.0 a.1, (a.0, a.1.0.0)),
    λ a. (a.1.0, ((a.1.1, no_deeper limits.depth a.1.0 bytes a.1.1 (whole_viable limits bytes k a.0 h.viable)), omega (arith, a.0, h.allowed))),
  )

  only_there : (fault : JsonFault) → IsRefusal limits bytes fault → fault.place ≡ k
  only_there fault r = one_longest limits bytes fault.place k (refused_longest limits bytes fault.cause fault.place r) h

  pub told_by : IsToldBy limits bytes k
  told_by = record { too_long = too_long; too_deep = too_deep; wrong = wrong; cut_off = cut_off; admitted = admitted; only_there = only_there }

-- ---- one refusal or an admitted text

same_cause : (limits : Allowed) (bytes : List ℕ) (k : ℕ) → IsToldBy limits bytes k → (c d : Cause) → RefusedFor c limits bytes k → RefusedFor d limits bytes k
    → c ≡ d
same_cause limits bytes k t Length Length a b = refl
same_cause limits bytes k t Length Depth a b = absurd ((t.too_deep.0 b).0 (t.too_long.0 a).0)
same_cause limits bytes k t Length Syntax a b = absurd ((t.wrong.0 b).0 (t.too_long.0 a).0)
same_cause limits bytes k t Length Truncated a b = absurd (omega (arith, (t.too_long.0 a).1, (t.cut_off.0 b).0))
same_cause limits bytes k t Depth Length a b = absurd ((t.too_deep.0 a).0 (t.too_long.0 b).0)
same_cause limits bytes k t Depth Depth a b = refl
same_cause limits bytes k t Depth Syntax a b = absurd ((t.wrong.0 b).2 (t.too_deep.0 a).2)
same_cause limits bytes k t Depth Truncated a b = absurd (omega (arith, (t.too_deep.0 a).1, (t.cut_off.0 b).0))
same_cause limits bytes k t Syntax Length a b = absurd ((t.wrong.0 a).0 (t.too_long.0 b).0)
same_cause limits bytes k t Syntax Depth a b = absurd ((t.wrong.0 a).2 (t.too_deep.0 b).2)
same_cause limits bytes k t Syntax Syntax a b = refl
same_cause limits bytes k t Syntax Truncated a b = absurd (omega (arith, (t.wrong.0 a).1, (t.cut_off.0 b).0))
same_cause limits bytes k t Truncated Length a b = absurd (omega (arith, (t.too_long.0 b).1, (t.cut_off.0 a).0))
same_cause limits bytes k t Truncated Depth a b = absurd (omega (arith, (t.too_deep.0 b).1, (t.cut_off.0 a).0))
same_cause limits bytes k t Truncated Syntax a b = absurd (omega (arith, (t.wrong.0 b).1, (t.cut_off.0 a).0))
same_cause limits bytes k t Truncated Truncated a b = refl

abbrev fault_at : ℕ → Cause → JsonFault
fault_at place cause = record { place = place; cause = cause }

pub one_refusal : (limits : Allowed) (bytes : List ℕ) (first second : JsonFault) → IsRefusal limits bytes first → IsRefusal limits bytes second → first ≡ second
one_refusal limits bytes first second a b =
    let l = refused_longest limits bytes first.cause first.place a in
    let t = told_by limits bytes first.place l in
    let e : second.place ≡ first.place = t.only_there second b in
    let P : ℕ → Type 0 = λ k. RefusedFor second.cause limits bytes k in
    let f : first.cause ≡ second.cause = same_cause limits bytes first.place t first.cause second.cause a (subst P e b) in
    ap (λ p. fault_at p first.cause) (sym e) ∙ ap (λ c. fault_at second.place c) f

pub refused_or_admitted : (limits : Allowed) (bytes : List ℕ) → ((fault : JsonFault) × IsRefusal limits bytes fault)
    ⊎ ((text : Text) × IsAdmitted limits text bytes)
refused_or_admitted limits bytes = go (some_longest limits bytes)
  where
    go : ((k : ℕ) × IsLongest limits bytes k) → ((fault : JsonFault) × IsRefusal limits bytes fault) ⊎ ((text : Text) × IsAdmitted limits text bytes)
    go l =
        let t = told_by limits bytes l.0 l.1 in
        elim (leb_tells (length bytes) l.0) [
          | inl whole ↦ (let e : l.0 ≡ length bytes = omega (arith, whole.1, l.1.within) in
              elim (text_or_not bytes)
              [ inl text ↦ inr (t.admitted.1 (e, text)) | inr never ↦ inl (record { place = l.0; cause = Truncated }, t.cut_off.1 (e, never)) ])
          | inr more ↦ elim (eqb_tells l.0 limits.bytes) [
            | inl e ↦ inl (record { place = l.0; cause = Length }, t.too_long.1 (e.1, more.1))
            | inr e ↦ elim (any_viable_or_not (take (l.0 + 1) bytes)) [
              | inl v ↦ inl (record { place = l.0; cause = Depth }, t.too_deep.1 (e.1, more.1, v))
              | inr never ↦ inl
                  (record { place = l.0; cause = Syntax }, t.wrong.1 (e.1, more.1, never))
            ]
          ]
        ]

pub never_both : (limits : Allowed) (bytes : List ℕ) (fault : JsonFault) (text : Text) → IsRefusal limits bytes fault → IsAdmitted limits text bytes → ⊥
never_both limits bytes fault text r a =
    let t = told_by limits bytes fault.place (refused_longest limits bytes fault.cause fault.place r) in
    let g = t.admitted.0 (text, a) in
    go fault.cause t g r
  where
    go : (c : Cause) → IsToldBy limits bytes fault.place → (fault.place ≡ length bytes) × ((text : Text) × IsText text bytes)
        → RefusedFor c limits bytes fault.place → ⊥
    go Length t g r = omega (arith, g.0, (t.too_long.0 r).1)
    go Depth t g r = omega (arith, g.0, (t.too_deep.0 r).1)
    go Syntax t g r = omega (arith, g.0, (t.wrong.0 r).1)
    go Truncated t g r = (t.cut_off.0 r).1 g.1.0 g.1.1

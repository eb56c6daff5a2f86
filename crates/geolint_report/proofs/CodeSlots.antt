-- Lemmas on where the count of a code lies, and on counts with one more.
use Rattle.std.specs.Prelude.{cond, map}
use Rattle.std.proofs.Common.{arith, inl, inr, set, length, ◌≡◌, ◌≤◌, ◌<◌, ◌+◌, ◌-◌, ℕ, Bool, true, false, List, [], ◌∷◌, ◌++◌, get_or, ap}
use Rattle.std.proofs.Common.{sym, ◌∙◌, nat_eq}
use Rattle.std.specs.Io.Iter.{u64_saturate}
use Rattle.std.specs.List.{count_by}
use Rattle.std.proofs.lemmas.Bool.Decides.{nat_tests, eqb_tells}
use Rattle.std.proofs.lemmas.List.{get_or-map, get_or-set_same, get_or-set_other}
use Rattle.std.proofs.lemmas.List.FromFn.{get_or-range_with_len}
use Rattle.std.proofs.lemmas.List.Sums.{sum_by_push}
use Rattle.gj_coords.specs.Fault.{number_of, rules}
use Rattle.gj_coords.specs.Warnings.{kind_number, kinds}
use Rattle.gj_coords.specs.Internal.ByKind.{kind_range}
use Rattle.gj_coords.specs.declared.fault.Rule.{Rule}
use Rattle.gj_coords.specs.declared.fault.Rule.TheVariants.{G1}
use Rattle.gj_coords.specs.declared.kind.Kind.{Kind}
use Rattle.gj_json.specs.declared.fault.Cause.{Cause}
use Rattle.gj_json.specs.declared.fault.Cause.TheVariants.{Syntax}
use Rattle.geolint_report.specs.declared.texts.Code.{Code}
use Rattle.geolint_report.specs.declared.texts.TheConstants.{ALL, CODES}
use Rattle.geolint_report.specs.Slots.{same, slot_of, more}
use Rattle.geolint_report.specs.Texts.{cause_number}
pub use Rattle.std.proofs.lemmas.Bool.{le-leb as below, lt-leb as above}

rule-range : (rule : Rule) → (1 ≤ number_of rule) × (number_of rule ≤ length rules)
rule-range G1 = (omega arith, omega arith)
rule-range other = (omega arith, omega arith)

cause-range : (cause : Cause) → (1 ≤ cause_number cause) × (cause_number cause ≤ 4)
cause-range Syntax = (omega arith, omega arith)
cause-range other = (omega arith, omega arith)

-- each code of the table has its count where it stands
pub slot-at : (i : ℕ) (d : Code) → i < CODES → slot_of (get_or ALL i d) ≡ i
slot-at i d within =
    let here : get_or (map slot_of ALL) i 0 ≡ 0 + i = get_or-range_with_len 0 CODES i 0 within in
    sym (get_or-map slot_of ALL i d 0 within) ∙ (here ∙ omega arith)

lessened : (m n : ℕ) → 1 ≤ m → 1 ≤ n → nat_eq m n ≡ nat_eq (m - 1) (n - 1)
lessened m n positive also = grind (arith, nat_tests, positive, also)

shifted : (m n k : ℕ) → nat_eq m n ≡ nat_eq (m + k) (n + k)
shifted m n k = grind (arith, nat_tests)

differ : (m n : ℕ) → m < n → false ≡ nat_eq m n
differ m n less = grind (arith, nat_tests, less)

differ-back : (m n : ℕ) → n < m → false ≡ nat_eq m n
differ-back m n less = grind (arith, nat_tests, less)

-- codes that have a count are the same where their counts lie together
pub same-slot : (a b : Code) → slot_of a < CODES → same a b ≡ nat_eq (slot_of a) (slot_of b)
same-slot (Code.Rule r) (Code.Rule q) small = lessened (number_of r) (number_of q) (rule-range r).0 (rule-range q).0
same-slot (Code.Rule r) (Code.Kind k) small = let w = rule-range r in differ _ _ (omega (arith, w.0, w.1))
same-slot (Code.Rule r) (Code.Cause k) small = let w = rule-range r in differ _ _ (omega (arith, w.0, w.1))
same-slot (Code.Rule r) Code.NotValid small = differ _ _ (omega (arith, small))
same-slot (Code.Kind k) (Code.Rule r) small = let w = rule-range r in differ-back _ _ (omega (arith, w.0, w.1))
same-slot (Code.Kind k) (Code.Kind j) small =
    lessened (kind_number k) (kind_number j) (kind_range k).0 (kind_range j).0 ∙ shifted (kind_number k - 1) (kind_number j - 1) (length rules)
same-slot (Code.Kind k) (Code.Cause c) small = let w = kind_range k in differ _ _ (omega (arith, w.0, w.1))
same-slot (Code.Kind k) Code.NotValid small = differ _ _ (omega (arith, small))
same-slot (Code.Cause c) (Code.Rule r) small = let w = rule-range r in differ-back _ _ (omega (arith, w.0, w.1))
same-slot (Code.Cause c) (Code.Kind k) small = let w = kind_range k in differ-back _ _ (omega (arith, w.0, w.1))
same-slot (Code.Cause c) (Code.Cause d) small =
    lessened (cause_number c) (cause_number d) (cause-range c).0 (cause-range d).0 ∙ shifted (cause_number c - 1) (cause_number d - 1) (length rules + length kinds)
same-slot (Code.Cause c) Code.NotValid small = differ _ _ (omega (arith, small))
same-slot Code.NotValid b small = absurd (omega (arith, small))

pub same-none : (a b : Code) → slot_of a < CODES → CODES ≤ slot_of b → same a b ≡ false
same-none a b small none = same-slot a b small ∙ sym (differ (slot_of a) (slot_of b) (omega (arith, small, none)))

-- one more at the place of a code
pub counted-at : (counts : List ℕ) (a b : Code) (v : ℕ) → slot_of a < CODES → slot_of b < length counts → v ≡ more true (get_or counts (slot_of b) 0)
    → get_or (set counts (slot_of b) v) (slot_of a) 0 ≡ more (same a b) (get_or counts (slot_of a) 0)
counted-at counts a b v small within is = elim (eqb_tells (slot_of a) (slot_of b)) [
  | inl e ↦ (ap (λ (n : ℕ). get_or (set counts (slot_of b) v) n 0) e.1
      ∙ (get_or-set_same counts (slot_of b) v 0 within ∙ (is ∙ ap (λ (n : ℕ). more true (get_or counts n 0)) (sym e.1)))
      ∙ ap (λ (t : Bool). more t (get_or counts (slot_of a) 0)) (sym (same-slot a b small ∙ e.0)))
  | inr e ↦ (get_or-set_other counts (slot_of b) (slot_of a) v 0 e.1
      ∙ ap (λ (t : Bool). more t (get_or counts (slot_of a) 0)) (sym (same-slot a b small ∙ e.0)))
]

-- ---- one more

pub more-saturates : (b : Bool) (n : ℕ) → more b (u64_saturate n) ≡ u64_saturate (n + cond b 1 0)
more-saturates true n = omega arith
more-saturates false n = omega arith

pub more-counted : {X : Type 0} (test : X → Bool) (xs : List X) (x : X) (b : Bool) (old new : ℕ) → test x ≡ b → old ≡ u64_saturate (count_by test xs)
    → new ≡ more b old
    → new ≡ u64_saturate (count_by test (xs ++ x ∷ []))
more-counted test xs x b old new is counted here =
    here ∙ (ap (λ (n : ℕ). more b n) counted ∙ (more-saturates b (count_by test xs)
    ∙ ap u64_saturate (ap (λ (t : Bool). count_by test xs + cond t 1 0) (sym is) ∙ sym (sum_by_push (λ (y : _). cond (test y) 1 0) xs x))))

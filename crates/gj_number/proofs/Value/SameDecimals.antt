-- Decimals in normal form are the same number exactly where they are one.
use Rattle.gj_number.proofs.Common.{Bool, Exact, IsNormal, ap, arith, eqb_tells, false, inl, inr, ints, refl, signed, subst, suc, sym, true}
use Rattle.gj_number.proofs.Common.{unsigned_abs, zero, ℕ, ◌%◌, ◌*◌, ◌+ℤ◌, ◌<◌, ◌==◌, ◌^◌, ◌↔◌, ◌∙◌, ◌≡◌, ◌≢◌}
use Rattle.std.proofs.Common.{◌&&◌, Decides}
use Rattle.std.proofs.Common.{pos}
use Rattle.std.specs.Bool.{beq}
use Rattle.std.specs.Ordering.{int_eq}
use Rattle.std.proofs.lemmas.Bool.Decides.{Decides-eqb, Decides-int_eq, Decides-and}
use Rattle.gj_number.specs.Exact.{IsWithinLimits, SameValue, same_parts}
use Rattle.gj_number.proofs.Value.NormalForm.{one_normal, normal_above_zero}
use Rattle.gj_number.proofs.Value.OneDenotation.{same_exact}

pub unsigned_abs-signed : (negative : Bool) (n : ℕ) → unsigned_abs (signed negative n) ≡ n
unsigned_abs-signed false n = refl
unsigned_abs-signed true zero = refl
unsigned_abs-signed true (suc n) = refl

one_sign : (a b : Bool) (n : ℕ) → 0 < n → signed a n ≡ signed b n → a ≡ b
one_sign false false n h e = refl
one_sign false true zero h e = absurd (omega arith)
one_sign false true (suc n) h e = cc
one_sign true false zero h e = absurd (omega arith)
one_sign true false (suc n) h e = cc
one_sign true true n h e = refl

pub same_from_value : (a b : Exact) → IsNormal a → IsNormal b → SameValue a b → a ≡ b
same_from_value a b h k s =
    let e : a.digits * 10 ^ s.above_a ≡ b.digits * 10 ^ s.above_b =
    sym (unsigned_abs-signed a.negative _) ∙ ap unsigned_abs s.same ∙ unsigned_abs-signed b.negative _ in
    elim h [
      | inl z ↦ elim k [
        | inl y ↦ z ∙ sym y
        | inr n ↦ absurd (let above = normal_above_zero b.digits s.above_b n in let d : a.digits ≡ 0 = ap (λ x. x.digits) z in let f = rw d at e in omega arith)
      ]
      | inr m ↦ elim k [
        | inl y ↦ absurd (let above = normal_above_zero a.digits s.above_a m in let d : b.digits ≡ 0 = ap (λ x. x.digits) y in let f = rw d at e in omega arith)
        | inr n ↦ both m n e
      ]
    ]
  where
    both : a.digits % 10 ≢ 0 → b.digits % 10 ≢ 0 → a.digits * 10 ^ s.above_a ≡ b.digits * 10 ^ s.above_b → a ≡ b
    both m n e =
        let f = one_normal a.digits b.digits s.above_a s.above_b m n e in
        let same : signed a.negative (b.digits * 10 ^ s.above_b) ≡ signed b.negative (b.digits * 10 ^ s.above_b) = ap (signed a.negative) (sym e) ∙ s.same in
        same_exact a b (one_sign a.negative b.negative _ (normal_above_zero b.digits s.above_b n) same) f.0
        (s.power_a ∙ ap (λ x. s.least +ℤ pos x) f.1 ∙ sym s.power_b)

pub value_from_same : (a b : Exact) → a ≡ b → SameValue a b
value_from_same a b e = let P : Exact → Type 0 = λ x. SameValue a x in subst P e (record {
  least = a.power;
  above_a = 0;
  above_b = 0;
  power_a = omega (arith, ints);
  power_b = omega (arith, ints);
  same = refl;
})

pub same_value : (a b : Exact) → IsNormal a → IsNormal b → (a ≡ b) ↔ SameValue a b
same_value a b h k = (value_from_same a b, same_from_value a b h k)

-- the test on the parts decides it
pub beq_decides : (x y : Bool) → Decides (beq x y) (x ≡ y)
beq_decides false false = ((λ _. refl), (λ _. refl))
beq_decides false true = ((λ t. cc), (λ e. cc))
beq_decides true false = ((λ t. cc), (λ e. cc))
beq_decides true true = ((λ _. refl), (λ _. refl))

pub same_parts_is : (a b : Exact) → (same_parts a b ≡ true) ↔ (a ≡ b)
same_parts_is a b =
    let d = Decides-and (beq a.negative b.negative) (a.digits == b.digits && int_eq a.power b.power) (beq_decides a.negative b.negative)
    (Decides-and (a.digits == b.digits) (int_eq a.power b.power) (Decides-eqb a.digits b.digits) (Decides-int_eq a.power b.power)) in
    ((λ t. let p = d.0 t in same_exact a b p.0 p.1.0 p.1.1), (λ e. d.1 (ap (λ x. x.negative) e, (ap (λ x. x.digits) e, ap (λ x. x.power) e))))

pub within_normal : (e : Exact) → IsWithinLimits e → IsNormal e
within_normal e h = elim (eqb_tells e.digits 0) [ inl z ↦ inl (h.zero_is z.1) | inr n ↦ inr (h.stripped (omega arith)) ]

pub same_parts_value : (a b : Exact) → IsWithinLimits a → IsWithinLimits b → (same_parts a b ≡ true) ↔ SameValue a b
same_parts_value a b h k =
    let p = same_parts_is a b in
    let v = same_value a b (within_normal a h) (within_normal b k) in
    ((λ t. v.0 (p.0 t)), (λ s. p.1 (v.1 s)))

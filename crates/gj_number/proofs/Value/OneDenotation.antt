-- Which decimal a literal denotes: that there is one and no other, and where the function gives it.
use Rattle.gj_number.proofs.Common.{Bool, Exact, IsNormal, IsNumber, List, None, Parts, Some, Spells, ap, arith, eqb_tells, inl, inr, length, refl}
use Rattle.gj_number.proofs.Common.{scale_of, stripped, subst, sym, tens_in, unsigned_abs, whole_of, zero_exact, ℕ, ℤ, ◌%◌, ◌*◌, ◌++◌, ◌+ℤ◌, ◌^◌, ◌↔◌}
use Rattle.gj_number.proofs.Common.{◌∙◌, ◌≡◌, ◌≢◌, ◌≤◌, ◌⊎◌}
use Rattle.std.proofs.Common.{pos}
use Rattle.gj_number.specs.Value.{exponent_limit, within_limits, value_of}
use Rattle.gj_number.specs.Denotation.{IsDecimalOf, Denotes, IsHeld}
use Rattle.gj_number.proofs.Grammar.SpelledParts.{parts_of}
use Rattle.gj_number.proofs.Grammar.FoundParts.{found, value_is, parts_digits}
use Rattle.gj_number.proofs.Value.HeldLimits.{within}
use Rattle.gj_number.proofs.Value.NormalForm.{one_normal, normal_above_zero, stripped_is, held_value-normal, held_value-zero, number_bounded}

-- ---- one decimal

-- decimals of the same three parts are one
pub same_exact : (a b : Exact) → a.negative ≡ b.negative → a.digits ≡ b.digits → a.power ≡ b.power → a ≡ b
same_exact a b e f g =
    let with_sign : Bool → Exact = λ x. record { negative = x; digits = a.digits; power = a.power } in
    let with_digits : ℕ → Exact = λ x. record { negative = b.negative; digits = x; power = a.power } in
    let with_power : ℤ → Exact = λ x. record { negative = b.negative; digits = b.digits; power = x } in
    ap with_sign e ∙ ap with_digits f ∙ ap with_power g

-- a literal has one list of parts
pub one_parts : (p q : Parts) (literal : List ℕ) → Spells p literal → Spells q literal → p ≡ q
one_parts p q literal h k =
    let f = found p literal h in
    let g = found q literal k in
    let with_sign : Bool → Parts = λ x. record { negative = x; natural = p.natural; fraction = p.fraction; exponent = p.exponent } in
    let with_natural : List ℕ → Parts = λ x. record { negative = q.negative; natural = x; fraction = p.fraction; exponent = p.exponent } in
    let with_fraction : List ℕ → Parts = λ x. record { negative = q.negative; natural = q.natural; fraction = x; exponent = p.exponent } in
    let with_exponent : ℤ → Parts = λ x. record { negative = q.negative; natural = q.natural; fraction = q.fraction; exponent = x } in
    ap with_sign (sym f.negative ∙ g.negative) ∙ ap with_natural (sym f.natural ∙ g.natural) ∙ ap with_fraction (sym f.fraction ∙ g.fraction)
    ∙ ap with_exponent (sym f.exponent ∙ g.exponent)

-- parts have one decimal
one_of_parts : (a b : Exact) (p : Parts) → IsDecimalOf a p → IsDecimalOf b p → a ≡ b
one_of_parts a b p h k = elim h [
  | inl z ↦ elim k [
    | inl y ↦ z.1 ∙ sym y.1
    | inr n ↦ absurd (let above = normal_above_zero b.digits n.0 n.2 in let e = sym z.0 ∙ n.3 in omega arith)
  ]
  | inr m ↦ elim k [
    | inl y ↦ absurd (let above = normal_above_zero a.digits m.0 m.2 in let e = sym y.0 ∙ m.3 in omega arith)
    | inr n ↦ (let e = one_normal a.digits b.digits m.0 n.0 m.2 n.2 (sym m.3 ∙ n.3) in
        same_exact a b (m.1 ∙ sym n.1) e.0 (m.4 ∙ ap (λ x. scale_of p +ℤ pos x) e.1 ∙ sym n.4))
  ]
]

pub one_denoted : (literal : List ℕ) (a b : Exact) → Denotes literal a → Denotes literal b → a ≡ b
one_denoted literal a b h k =
    let P : Parts → Type 0 = λ p. IsDecimalOf a p in one_of_parts a b k.0 (subst P (one_parts h.0 k.0 literal h.1 k.1) h.2) k.2

pub some_denoted : (literal : List ℕ) → IsNumber literal → (e : Exact) × Denotes literal e
some_denoted literal h = let p = parts_of literal h in go p.0 p.1
  where
    go : (parts : Parts) → Spells parts literal → (e : Exact) × Denotes literal e
    go parts s = elim (eqb_tells (whole_of parts) 0) [
      | inl z ↦ (zero_exact, (parts, s, inl (z.1, refl)))
      | inr n ↦ (
          let most = length (parts.natural ++ parts.fraction) in
          let k = stripped_is most (whole_of parts) (omega arith) (number_bounded (parts.natural ++ parts.fraction) (parts_digits parts literal s)) in (
            record { negative = parts.negative; digits = stripped most (whole_of parts); power = scale_of parts +ℤ pos (tens_in most (whole_of parts)) },
            (parts, s, inr (tens_in most (whole_of parts), refl, k.0, k.1, refl)),
          )
          )
    ]

pub denoted_normal : (literal : List ℕ) (e : Exact) → Denotes literal e → IsNormal e
denoted_normal literal e d = elim d.2 [ inl z ↦ inl z.1 | inr n ↦ inr n.2 ]

-- ---- where the function gives it

-- the function gives the decimal where it is held, and nothing elsewhere
value_decides : (literal : List ℕ) (e : Exact) → Denotes literal e → (IsHeld literal e × (value_of literal ≡ Some e))
    ⊎ ((¬ IsHeld literal e) × (value_of literal ≡ None))
value_decides literal e d = elim d.2 [
  | inl z ↦ inl (inl (ap (λ x. x.digits) z.1), value_is d.0 literal d.1 ∙ held_value-zero _ _ _ _ _ z.0 ∙ ap Some (sym z.1))
  | inr n ↦ normal n
]
  where
    parts : Parts
    parts = d.0

    normal : ((tens : ℕ) × (e.negative ≡ d.0.negative) × (e.digits % 10 ≢ 0) × (whole_of d.0 ≡ e.digits * 10 ^ tens) × (e.power ≡ scale_of d.0 +ℤ pos tens))
        → (IsHeld literal e × (value_of literal ≡ Some e)) ⊎ ((¬ IsHeld literal e) × (value_of literal ≡ None))
    normal n =
        let bounded = number_bounded (d.0.natural ++ d.0.fraction) (parts_digits d.0 literal d.1) in
        let same : record { negative = d.0.negative; digits = e.digits; power = scale_of d.0 +ℤ pos n.0 } ≡ e = same_exact _ e (sym n.1) refl (sym n.4) in
        let is : value_of literal ≡ within_limits d.0.exponent e =
        value_is d.0 literal d.1 ∙ held_value-normal _ _ _ _ _ e.digits n.0 bounded n.2 n.3 ∙ ap (within_limits d.0.exponent) same in
        elim (within d.0.exponent e) [
          | inl w ↦ inl (inr (d.0, d.1, w.0.digits, w.0.power, w.0.written), is ∙ w.1)
          | inr w ↦ inr (
            (λ held. elim held [
              | inl z ↦ n.2 (ap (λ x. x % 10) z)
              | inr h ↦ w.0 (record {
                digits = h.2;
                power = h.3;
                written =
                    (let P : Parts → Type 0 = λ p. unsigned_abs p.exponent ≤ exponent_limit in subst P (one_parts h.0 d.0 literal h.1 d.1) h.4);
              })
            ]),
            is ∙ w.1,
          )
        ]

pub value_held : (literal : List ℕ) (e : Exact) → Denotes literal e → (value_of literal ≡ Some e) ↔ IsHeld literal e
value_held literal e d = elim (value_decides literal e d) [
  | inl h ↦ ((λ _. h.0), (λ _. h.1))
  | inr h ↦ ((λ s. absurd (let f = sym s ∙ h.1 in cc)), (λ held. absurd (h.0 held)))
]

pub value_not_held : (literal : List ℕ) (e : Exact) → Denotes literal e → (value_of literal ≡ None) ↔ (¬ IsHeld literal e)
value_not_held literal e d = elim (value_decides literal e d) [
  | inl h ↦ ((λ s. absurd (let f = sym s ∙ h.1 in cc)), (λ n. absurd (n h.0)))
  | inr h ↦ ((λ _. h.0), (λ _. h.1))
]

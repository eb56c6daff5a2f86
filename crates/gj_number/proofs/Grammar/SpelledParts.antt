-- A number's parts and its grammar.
use Rattle.gj_number.proofs.Common.{Bool, IsFraction, IsNumber, List, Parts, Spells, SpellsExponent, SpellsExponentSign, SpellsFraction, SpellsSign}
use Rattle.gj_number.proofs.Common.{false, inl, inr, minus_sign, number_of, refl, signed, true, ℕ, [], ◌++◌, ◌∷◌, ◌≡◌}
use Rattle.std.proofs.Common.{pos}
use Rattle.gj_number.specs.Grammar.{IsSign, IsExponent, IsUnsigned}

fraction_parts : (bytes : List ℕ) → IsFraction bytes → (digits : List ℕ) × SpellsFraction digits bytes
fraction_parts bytes h = elim h [ inl e ↦ ([], inl (e, refl)) | inr k ↦ (k.0, inr (k.1, k.2)) ]

sign_parts : (bytes : List ℕ) → IsSign bytes → (negative : Bool) × SpellsExponentSign negative bytes
sign_parts bytes h = elim h [ inl e ↦ (false, inl e) | inr k ↦ elim k [ inl e ↦ (false, inr e) | inr e ↦ (true, e) ] ]

exponent_parts : (bytes : List ℕ) → IsExponent bytes → (exponent : _) × SpellsExponent exponent bytes
exponent_parts bytes h = elim h [
  | inl e ↦ (pos 0, inl (e, refl))
  | inr k ↦ (let s = sign_parts k.1 k.5 in (signed s.0 (number_of k.2), inr (k.0, k.1, k.2, s.0, k.3, k.4, s.1, k.6, refl)))
]

unsigned_parts : (negative : Bool) (sign unsigned literal : List ℕ) → literal ≡ sign ++ unsigned → SpellsSign negative sign → IsUnsigned unsigned
    → (parts : Parts) × Spells parts literal
unsigned_parts negative sign unsigned literal e s h =
    let f = fraction_parts h.1 h.5 in
    let x = exponent_parts h.2 h.6 in
    let parts : Parts = record { negative = negative; natural = h.0; fraction = f.0; exponent = x.0 } in (
      parts,
      record {
        sign = sign;
        behind_point = h.1;
        behind_digits = h.2;
        joined = rw (← h.3) e;
        spells_sign = s;
        spells_natural = h.4;
        spells_fraction = f.1;
        spells_exponent = x.1;
      },
    )

-- each number has parts
pub parts_of : (literal : List ℕ) → IsNumber literal → (parts : Parts) × Spells parts literal
parts_of literal h = elim h [
  | inl u ↦ unsigned_parts false [] literal literal refl refl u
  | inr k ↦ unsigned_parts true (minus_sign ∷ []) k.0 literal k.1 refl k.2
]

fraction_is : (digits bytes : List ℕ) → SpellsFraction digits bytes → IsFraction bytes
fraction_is digits bytes h = elim h [ inl e ↦ inl e.0 | inr e ↦ inr (digits, e.0, e.1) ]

sign_is : (negative : Bool) (bytes : List ℕ) → SpellsExponentSign negative bytes → IsSign bytes
sign_is false bytes h = elim h [ inl e ↦ inl e | inr e ↦ inr (inl e) ]
sign_is true bytes h = inr (inr h)

-- what has parts is a number
pub number_from : (parts : Parts) (literal : List ℕ) → Spells parts literal → IsNumber literal
number_from parts literal h = go parts.negative h.sign h.joined h.spells_sign
  where
    unsigned : IsUnsigned (parts.natural ++ (h.behind_point ++ h.behind_digits))
    unsigned = (
      parts.natural,
      h.behind_point,
      h.behind_digits,
      refl,
      h.spells_natural,
      fraction_is parts.fraction h.behind_point h.spells_fraction,
      elim h.spells_exponent [
        | inl e ↦ inl e.0
        | inr k ↦ inr (k.0, k.1, k.2, k.4, k.5, sign_is k.3 k.1 k.6, k.7)
      ],
    )

    go : (negative : Bool) (sign : List ℕ) → literal ≡ sign ++ (parts.natural ++ (h.behind_point ++ h.behind_digits)) → SpellsSign negative sign
        → IsNumber literal
    go false sign e s = inl (rw (e, s) unsigned)
    go true sign e s = inr (parts.natural ++ (h.behind_point ++ h.behind_digits), rw (e, s) refl, unsigned)

-- What is given of a name when one byte more comes, and which names are left then.
use Rattle.std.proofs.Common.{arith, ◌≡◌, ◌≤◌, ◌<◌, ◌+◌, ℕ, min, refl, ap, sym, subst, ◌∙◌, List, [], ◌∷◌, ◌++◌, length, take, true, false, Bool, nat_eq}
use Rattle.std.proofs.Common.{length-append, inl, inr}
use Rattle.std.proofs.lemmas.Bool.{cases_Bool, true≢false, false≢true}
use Rattle.std.proofs.lemmas.List.{take-append-le, take_all, length-take}
use Rattle.geolint_report.specs.declared.name_lists.names.TheConstants.{LONGEST_NAME}
use Rattle.geolint_report.specs.Listed.{before_nul, has_nul, given}

pub has_nul-more : (name : List ℕ) (byte : ℕ) → has_nul name ≡ true → has_nul (name ++ byte ∷ []) ≡ true
unfolding has_nul
has_nul-more [] byte has = absurd (false≢true has)
has_nul-more (first ∷ rest) byte has = elim (cases_Bool (nat_eq first 0)) [
  | inl e ↦ rw e refl
  | inr e ↦ rw e (has_nul-more rest byte (rw e at has))
]

pub has_nul-last : (name : List ℕ) (byte : ℕ) → has_nul name ≡ false → has_nul (name ++ byte ∷ []) ≡ nat_eq byte 0
unfolding has_nul
has_nul-last [] byte has = elim (cases_Bool (nat_eq byte 0)) [
  | inl e ↦ rw e refl
  | inr e ↦ rw e refl
]
has_nul-last (first ∷ rest) byte has = elim (cases_Bool (nat_eq first 0)) [
  | inl e ↦ absurd (true≢false (rw e at has))
  | inr e ↦ rw e (has_nul-last rest byte (rw e at has))
]

pub before_nul-more : (name : List ℕ) (byte : ℕ) → has_nul name ≡ true → before_nul (name ++ byte ∷ []) ≡ before_nul name
unfolding has_nul before_nul
before_nul-more [] byte has = absurd (false≢true has)
before_nul-more (first ∷ rest) byte has = elim (cases_Bool (nat_eq first 0)) [
  | inl e ↦ rw e refl
  | inr e ↦ rw e (ap (λ (l : List ℕ). first ∷ l) (before_nul-more rest byte (rw e at has)))
]

pub before_nul-nul : (name : List ℕ) → before_nul (name ++ 0 ∷ []) ≡ before_nul name
unfolding before_nul
before_nul-nul [] = refl
before_nul-nul (first ∷ rest) = elim (cases_Bool (nat_eq first 0)) [
  | inl e ↦ rw e refl
  | inr e ↦ rw e (ap (λ (l : List ℕ). first ∷ l) (before_nul-nul rest))
]

pub before_nul-last : (name : List ℕ) (byte : ℕ) → has_nul name ≡ false → nat_eq byte 0 ≡ false → before_nul (name ++ byte ∷ []) ≡ before_nul name ++ byte ∷ []
unfolding has_nul before_nul
before_nul-last [] byte has other = rw other refl
before_nul-last (first ∷ rest) byte has other = elim (cases_Bool (nat_eq first 0)) [
  | inl e ↦ absurd (true≢false (rw e at has))
  | inr e ↦ rw e (ap (λ (l : List ℕ). first ∷ l) (before_nul-last rest byte (rw e at has) other))
]

-- ---- NUL comes

pub with-nul : (name begun : List ℕ) (byte : ℕ) → byte ≡ 0 → name ≡ given begun → (name ≡ given (begun ++ byte ∷ [])) × (true ≡ has_nul (begun ++ byte ∷ []))
with-nul name begun byte nul is = subst (λ (b : ℕ). (name ≡ given (begun ++ b ∷ [])) × (true ≡ has_nul (begun ++ b ∷ []))) (sym nul) (
  is ∙ ap (λ (l : List ℕ). take LONGEST_NAME l) (sym (before_nul-nul begun)),
  elim (cases_Bool (has_nul begun)) [
    | inl e ↦ sym (has_nul-more begun 0 e)
    | inr e ↦ sym (has_nul-last begun 0 e)
  ],
)

-- ---- a byte after NUL

pub after-nul : (name begun : List ℕ) (has : Bool) (byte : ℕ) → has ≡ true → name ≡ given begun → has ≡ has_nul begun
    → (name ≡ given (begun ++ byte ∷ [])) × (has ≡ has_nul (begun ++ byte ∷ []))
after-nul name begun has byte set is same =
    let nul : has_nul begun ≡ true = sym same ∙ set in (
      is ∙ ap (λ (l : List ℕ). take LONGEST_NAME l) (sym (before_nul-more begun byte nul)),
      set ∙ sym (has_nul-more begun byte nul),
    )

-- ---- a byte before NUL

before-nul : (begun : List ℕ) (has : Bool) (byte : ℕ) → has ≡ false → nat_eq byte 0 ≡ false → has ≡ has_nul begun → has ≡ has_nul (begun ++ byte ∷ [])
before-nul begun has byte unset other same = unset ∙ sym (has_nul-last begun byte (sym same ∙ unset) ∙ other)

pub no-room : (name begun : List ℕ) (has : Bool) (byte : ℕ) → has ≡ false → nat_eq byte 0 ≡ false → LONGEST_NAME ≤ length name → name ≡ given begun
    → has ≡ has_nul begun
    → (name ≡ given (begun ++ byte ∷ [])) × (has ≡ has_nul (begun ++ byte ∷ []))
no-room name begun has byte unset other full is same =
    let long : length name ≡ min LONGEST_NAME (length (before_nul begun)) = ap (λ (l : List ℕ). length l) is ∙ length-take LONGEST_NAME (before_nul begun) in
    let enough : LONGEST_NAME ≤ length (before_nul begun) = omega (arith, long, full) in (
      is ∙ sym (ap (λ (l : List ℕ). take LONGEST_NAME l) (before_nul-last begun byte (sym same ∙ unset) other)
          ∙ take-append-le LONGEST_NAME (before_nul begun) (byte ∷ []) enough),
      before-nul begun has byte unset other same,
    )

pub with-room : (name begun : List ℕ) (has : Bool) (byte : ℕ) → has ≡ false → nat_eq byte 0 ≡ false → length name < LONGEST_NAME → name ≡ given begun
    → has ≡ has_nul begun
    → (name ++ byte ∷ [] ≡ given (begun ++ byte ∷ [])) × (has ≡ has_nul (begun ++ byte ∷ []))
with-room name begun has byte unset other room is same =
    let long : length name ≡ min LONGEST_NAME (length (before_nul begun)) = ap (λ (l : List ℕ). length l) is ∙ length-take LONGEST_NAME (before_nul begun) in
    let short : length (before_nul begun) < LONGEST_NAME = omega (arith, long, room) in
    let all : take LONGEST_NAME (before_nul begun) ≡ before_nul begun = take_all LONGEST_NAME (before_nul begun) (omega (arith, short)) in
    let more : length (before_nul begun ++ byte ∷ []) ≡ length (before_nul begun) + 1 = length-append (before_nul begun) (byte ∷ []) in
    let whole : take LONGEST_NAME (before_nul begun ++ byte ∷ []) ≡ before_nul begun ++ byte ∷ [] =
    take_all LONGEST_NAME (before_nul begun ++ byte ∷ []) (omega (arith, short, more)) in (
      ap (λ (l : List ℕ). l ++ byte ∷ []) (is ∙ all)
          ∙ sym (ap (λ (l : List ℕ). take LONGEST_NAME l) (before_nul-last begun byte (sym same ∙ unset) other) ∙ whole),
      before-nul begun has byte unset other same,
    )

-- ---- of a name that has begun something is given, or NUL is in it

pub given-nothing : (begun : List ℕ) → has_nul begun ≡ false → length (given begun) ≡ 0 → begun ≡ []
unfolding has_nul before_nul
given-nothing [] has none = refl
given-nothing (first ∷ rest) has none = elim (cases_Bool (nat_eq first 0)) [
  | inl e ↦ absurd (true≢false (rw e at has))
  | inr e ↦
      let long : min LONGEST_NAME (length (first ∷ before_nul rest)) ≡ 0 = sym (length-take LONGEST_NAME (first ∷ before_nul rest)) ∙ (rw e at none) in
      absurd (omega (arith, long))
]

pub given-empty : given [] ≡ []
unfolding before_nul
given-empty = refl

pub nul-empty : has_nul [] ≡ false
unfolding has_nul
nul-empty = refl

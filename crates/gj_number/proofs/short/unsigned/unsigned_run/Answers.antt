-- The digits that are found are those of a number.
use Rattle.gj_number.proofs.Common.{IsDigit, IsNumber, List, SpellsPlain, SpellsSign, SpellsUnsigned, append-nil, arith, false, get_or, inl, length}
use Rattle.gj_number.proofs.Common.{refl, subst, suc, sym, take, true, zero, zero_digit, ℕ, [], ◌+◌, ◌<◌, ◌∙◌, ◌≡◌, ◌≤◌}
use Rattle.std.proofs.Common.{zero-add}
use Rattle.std.specs.Prelude.{pos}
use Rattle.gj_number.proofs.Grammar.SpelledParts.{number_from}
use Rattle.gj_number.proofs.Shorts.NumberPrefixes.{short_plain}
use Rattle.gj_number.proofs.short.unsigned.unsigned_run.Goals as goal

plain_number : (piece : List ℕ) (digits places n : ℕ) → SpellsPlain piece false digits places n → IsNumber (take n piece)
plain_number piece digits places n p =
    number_from (record { negative = false; natural = p.natural; fraction = p.fraction; exponent = pos 0 }) (take n piece) (record {
      sign = p.sign;
      behind_point = p.after_natural;
      behind_digits = [];
      joined = p.joined ∙ simp append-nil;
      spells_sign = p.spells_sign;
      spells_natural = p.spells_natural;
      spells_fraction = p.spells_fraction;
      spells_exponent = inl (refl, refl);
    })

-- digits, and digits after a point, at the start of a piece
spelled_number : (piece : List ℕ) (natural fraction bytes value : ℕ) → SpellsUnsigned piece natural fraction bytes value → 0 < natural
    → (get_or piece 0 0 ≡ zero_digit → natural ≡ 1) → bytes ≤ 16 → 16 < length piece → IsNumber (take bytes piece)
spelled_number piece natural fraction bytes value k some one few room =
    let none : SpellsSign false (take 0 piece) = refl in
    let p = short_plain piece false 0 natural fraction bytes value none k some one few (omega arith) in
    let P : ℕ → Type 0 = λ n. IsNumber (take n piece) in
    subst P (zero-add bytes) (plain_number piece value fraction (0 + bytes) p)

-- a digit stands before the point
some_digit : (piece : List ℕ) (n : ℕ) → (IsDigit (get_or piece n 0) → ⊥) → (n ≡ 0 → IsDigit (get_or piece 0 0)) → 0 < n
some_digit piece zero ends h = absurd (ends (h refl))
some_digit piece (suc n) ends h = omega arith

pub returns-in-Some-clause-number : goal.returns-in-Some-clause-number
returns-in-Some-clause-number c = λ positive.
    let piece = c.args.piece.now in
    let found = c.in-Some.found in
    let is = c.in-Some.ensures in
    spelled_number piece found.natural found.fraction found.length found.value is.spells
    (some_digit piece found.natural is.ends (c.leads.ensures.some c.if-leads.true)) (c.leads.ensures.one c.if-leads.true) (omega (arith, is.few)) (omega arith)

pub returns-in-Some-clause-taken : goal.returns-in-Some-clause-taken
returns-in-Some-clause-taken c = λ n few u. (c.in-Some.ensures.taken n few u).0

pub returns-in_default-clause-taken : goal.returns-in_default-clause-taken
returns-in_default-clause-taken c = λ n few u.
    let t = c.leads.ensures.taken (c.in-Some.ensures.taken n few u).1 in
    let f = c.if-leads.false in
    let e : true ≡ false = sym t ∙ f in cc

pub returns-in_default-2-clause-taken : goal.returns-in_default-2-clause-taken
returns-in_default-2-clause-taken c = λ n few u. absurd (c.in_default.ensures.taken n few u)

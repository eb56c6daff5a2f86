use Rattle.gj_number.proofs.Common.{IsDigit, List, SpellsUnsigned, arith, bool_byte, decimal_point, get_or, length-drop, subst}
use Rattle.gj_number.proofs.Common.{take_rest, ℕ, ◌≡◌, ◌≤◌}
use Rattle.gj_number.proofs.Shorts.NumberPrefixes.{sign_at, sign_length, one_of, first_some, short_small, short_plain}
use Rattle.gj_number.proofs.Shorts.OrdinaryNumbers.{laid}
use Rattle.gj_number.proofs.Shorts.UnsignedNumbers.{unsigned_ends}
use Rattle.gj_number.proofs.short.prefix.near_number.Goals as goal

pub invariant_of-number : goal.invariant_of-number
invariant_of-number c =
    let piece = c.args.piece.now in
    let negative = c.args.negative in
    let first = bool_byte negative in
    let k : first ≤ 1 = sign_length negative in
    let found = c.in_ok-found.found in
    let P : List ℕ → Type 0 = λ xs. SpellsUnsigned xs found.natural found.fraction found.length found.value in
    let some = first_some piece first found.natural c.in_ok-found.ensures.ends (c.leads.ensures.some c.if-not-leads.false) in
    let lead = c.leads.ensures.one c.if-not-leads.false in
    let small = short_small piece negative first found.natural found.fraction found.length found.value (sign_at piece negative c.requires.sign (omega arith))
    (subst P (take_rest piece first) c.in_ok-found.ensures.spells) some (one_of piece first found.natural lead) (omega (arith, c.in_ok-found.ensures.few))
    (omega arith) in
    record { small = small.1; few = (let l = small.0 in omega arith) }

pub returns-clause-plain : goal.returns-clause-plain
returns-clause-plain c =
    let piece = c.args.piece.now in
    let negative = c.args.negative in
    let first = bool_byte negative in
    let k : first ≤ 1 = sign_length negative in
    let found = c.in_ok-found.found in
    let P : List ℕ → Type 0 = λ xs. SpellsUnsigned xs found.natural found.fraction found.length found.value in
    let some = first_some piece first found.natural c.in_ok-found.ensures.ends (c.leads.ensures.some c.if-not-leads.false) in
    short_plain piece negative first found.natural found.fraction found.length found.value (sign_at piece negative c.requires.sign (omega arith))
    (subst P (take_rest piece first) c.in_ok-found.ensures.spells) some (one_of piece first found.natural (c.leads.ensures.one c.if-not-leads.false))
    (omega (arith, c.in_ok-found.ensures.few)) (omega arith)

pub returns-clause-taken : goal.returns-clause-taken
returns-clause-taken c = λ n o.
    let piece = c.args.piece.now in
    let negative = c.args.negative in
    let first = bool_byte negative in
    let k : first ≤ 1 = sign_length negative in
    let found = c.in_ok-found.found in
    let is = c.in_ok-found.ensures in
    let P : List ℕ → Type 0 = λ xs. SpellsUnsigned xs found.natural found.fraction found.length found.value in
    let Q : List ℕ → Type 0 = λ xs. IsDigit (get_or xs found.natural 0) → ⊥ in
    let R : List ℕ → Type 0 = λ xs. IsDigit (get_or xs found.length 0) → ⊥ in
    let S : List ℕ → Type 0 = λ xs. found.fraction ≡ 0 → get_or xs found.natural 0 ≡ decimal_point → ⊥ in
    let rest = take_rest piece first in
    unsigned_ends piece first _ _ (laid piece negative n c.requires.sign o) found.natural found.fraction found.length found.value (subst P rest is.spells)
    (subst Q rest is.ends) (subst R rest is.last) (subst S rest is.point) (omega (arith, is.few, length-drop first piece))

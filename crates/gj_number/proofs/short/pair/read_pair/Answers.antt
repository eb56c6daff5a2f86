use Rattle.gj_number.proofs.Common.{List, SpellsPlain, StartsUsual, StartsUsualPair, ap, arith, bool_byte, close_bracket, drop, get_or, length}
use Rattle.gj_number.proofs.Common.{minus_sign, space, subst, sym, take, take_rest, ℕ, ◌+◌, ◌-◌, ◌<◌, ◌==◌, ◌^◌, ◌∙◌, ◌≡◌, ◌≤◌}
use Rattle.gj_number.proofs.Shorts.NumberPrefixes.{sign_length}
use Rattle.gj_number.proofs.Shorts.PointedNumbers.{second_is}
use Rattle.gj_number.proofs.Shorts.NumberPairs.{pair_front}
use Rattle.gj_number.proofs.short.pair.read_pair.Goals as goal

-- where the second of two usual numbers is found, it stands
second_found : (piece : List ℕ) (length_one at : ℕ) (u : StartsUsualPair piece) → at ≡ length_one + 1 + bool_byte (get_or piece (length_one + 1) 0 == space)
    → length_one ≡ u.comma_at → at ≡ u.second_at
second_found piece length_one at u at_is there =
    at_is ∙ ap (λ n. n + 1 + bool_byte (get_or piece (n + 1) 0 == space)) there
    ∙ second_is piece u.comma_at u.second_at u.length_other close_bracket u.between u.other

pub returns-clause-numbers : goal.returns-clause-numbers
returns-clause-numbers c =
    let piece = c.args.piece.now in
    let one = c.in-Some.one in
    let other = c.in-Some-digits_before.other in
    let at = c.after_comma-at.result in
    let at_is = c.after_comma-at.ensures in
    let negative = get_or piece 0 0 == minus_sign in
    let minus = get_or piece at 0 == minus_sign in
    let k : bool_byte (get_or piece (one.length + 1) 0 == space) ≤ 1 = sign_length (get_or piece (one.length + 1) 0 == space) in
    let values = c.numbers_of-value.result in
    let P : ℕ → Type 0 = λ d. SpellsPlain piece negative d one.places one.length in
    let Q : ℕ → Type 0 = λ d. SpellsPlain (take (length piece - at) (drop at piece)) minus d other.places other.length in
    let Small : ℕ → Type 0 = λ d. d < 10 ^ 18 in
    let first = sym c.numbers_of-value.ensures.first in
    let second = sym c.numbers_of-value.ensures.second in
    pair_front piece negative minus values.0 one.places one.length values.1 other.places other.length at (subst P first c.in-Some.ensures.spells)
    (subst Small first c.in-Some.ensures.small) c.in-Some.ensures.places (let l = c.in-Some.ensures.few in omega arith)
    c.in-Some.ensures.after at_is (let l = c.in-Some.ensures.few in let m = c.in-Some-digits_before.ensures.few in omega (arith, k, at_is))
    (subst Q second c.in-Some-digits_before.ensures.spells)
    (subst Small second c.in-Some-digits_before.ensures.small) c.in-Some-digits_before.ensures.places c.in-Some-digits_before.ensures.after

pub returns-clause-whole : goal.returns-clause-whole
returns-clause-whole c = λ u.
    let piece = c.args.piece.now in
    let second = second_found piece c.in-Some.one.length c.after_comma-at.result u c.after_comma-at.ensures (c.in-Some.ensures.whole u.comma_at u.one) in
    let P : List ℕ → Type 0 = λ xs. StartsUsual xs u.length_other close_bracket in
    let Q : ℕ → Type 0 = λ n. StartsUsual (drop n piece) u.length_other close_bracket in
    let other = c.in-Some-digits_before.ensures.whole u.length_other (subst P (sym (take_rest piece c.after_comma-at.result)) (subst Q (sym second) u.other)) in
    ap (λ n. n + c.in-Some-digits_before.other.length) second ∙ ap (λ n. u.second_at + n) other

pub returns-in_default-clause-taken : goal.returns-in_default-clause-taken
returns-in_default-clause-taken c = λ u. c.in_default.ensures.taken u.comma_at u.one

pub returns-in_default-digits_before-clause-taken : goal.returns-in_default-digits_before-clause-taken
returns-in_default-digits_before-clause-taken c = λ u.
    let piece = c.args.piece.now in
    let at = c.after_comma-at.result in
    let second = second_found piece c.in-Some.one.length at u c.after_comma-at.ensures (c.in-Some.ensures.whole u.comma_at u.one) in
    let P : List ℕ → Type 0 = λ xs. StartsUsual xs u.length_other close_bracket in
    let Q : ℕ → Type 0 = λ n. StartsUsual (drop n piece) u.length_other close_bracket in
    c.in_default-digits_before.ensures.taken u.length_other (subst P (sym (take_rest piece at)) (subst Q (sym second) u.other))

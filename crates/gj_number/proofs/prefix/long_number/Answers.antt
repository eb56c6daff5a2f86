use Rattle.gj_number.proofs.Common.{Exact, List, SpellsOn, SpellsUnsigned, StartsWithNumber, arith, bool_byte, drop, ints, subst, sym, take_rest}
use Rattle.gj_number.proofs.Common.{with_value, ℕ, ◌+◌, ◌<◌, ◌^◌, ◌≤◌}
use Rattle.std.specs.List.{fold}
use Rattle.gj_number.proofs.Shorts.NumberPrefixes.{sign_at, sign_length, one_of, below_power}
use Rattle.gj_number.proofs.Shorts.LongNumbers.{upper_small, long_plain, long_start}
use Rattle.gj_number.proofs.prefix.long_number.Goals as goal

pub joined_digits-all-requires-clause-upper : goal.joined_digits-all-requires-clause-upper
joined_digits-all-requires-clause-upper c =
    let piece = c.args.piece.now in
    let negative = c.args.negative in
    let first = bool_byte negative in
    let k : first ≤ 1 = sign_length negative in
    let pointed = c.in-Some.pointed in
    let is = c.in-Some.ensures in
    let few = is.few in
    let m = c.digits_prefix-more in
    let length_of = pointed.natural + 1 + pointed.fraction in
    let P : List ℕ → Type 0 = λ xs. SpellsUnsigned xs pointed.natural pointed.fraction length_of (fold with_value 0 pointed.digits) in
    let R : List ℕ → Type 0 = λ xs. SpellsOn xs 0 m.result.0 (fold with_value 0 m.result.1) in
    let one = one_of piece first pointed.natural (c.leads.ensures.one c.if-not-leads.false) in
    let Q : ℕ → Type 0 = λ n. n < 10 ^ 15 in
    subst Q (sym c.numbers_of-upper.ensures.first)
    (upper_small piece negative first pointed.natural pointed.fraction m.result.0 _ _ (sign_at piece negative c.requires.sign (omega arith))
    (subst P (take_rest piece first) is.spells) (subst R (take_rest piece (first + 16)) m.ensures.spells) is.some one
    (omega (arith, c.if-pointed-lt-AT_ONCE.false)) (omega arith))

pub joined_digits-all-requires-clause-lower : goal.joined_digits-all-requires-clause-lower
joined_digits-all-requires-clause-lower c =
    let piece = c.args.piece.now in
    let first = bool_byte c.args.negative in
    let m = c.digits_prefix-more in
    let P : ℕ → Type 0 = λ n. n < 10 ^ m.result.0 in
    let Q : List ℕ → Type 0 = λ xs. SpellsOn xs 0 m.result.0 (fold with_value 0 m.result.1) in
    subst P (sym c.numbers_of-upper.ensures.second)
    (below_power (drop (first + 16) piece) m.result.0 _ (subst Q (take_rest piece (first + 16)) m.ensures.spells))

pub new-requires : goal.new-requires
new-requires c =
    let d = c.joined_digits-all in
    let few = c.in-Some.ensures.few in
    let more = c.digits_prefix-more.ensures.few in
    record {
      zero_is = (λ z. absurd (d.ensures.last (rw z (omega arith))));
      stripped = (λ _. d.ensures.last);
      digits = d.ensures.below;
      power = omega (arith, ints);
    }

pub returns : goal.returns
returns c = λ _.
    let piece = c.args.piece.now in
    let negative = c.args.negative in
    let first = bool_byte negative in
    let k : first ≤ 1 = sign_length negative in
    let pointed = c.in-Some.pointed in
    let is = c.in-Some.ensures in
    let few = is.few in
    let m = c.digits_prefix-more in
    let length_of = pointed.natural + 1 + pointed.fraction in
    let P : List ℕ → Type 0 = λ xs. SpellsUnsigned xs pointed.natural pointed.fraction length_of (fold with_value 0 pointed.digits) in
    let R : List ℕ → Type 0 = λ xs. SpellsOn xs 0 m.result.0 (fold with_value 0 m.result.1) in
    let one = one_of piece first pointed.natural (c.leads.ensures.one c.if-not-leads.false) in
    let d = c.joined_digits-all in
    let up = c.numbers_of-upper in
    let Q : ℕ → Type 0 = λ n. SpellsUnsigned (drop first piece) pointed.natural pointed.fraction (pointed.natural + 1 + pointed.fraction) n in
    let S : ℕ → Type 0 = λ n. SpellsOn (drop (first + 16) piece) 0 m.result.0 n in
    let plain = long_plain piece negative first pointed.natural pointed.fraction m.result.0 up.result.0 up.result.1
    (sign_at piece negative c.requires.sign (omega arith)) (subst Q (sym up.ensures.first) (subst P (take_rest piece first) is.spells))
    (subst S (sym up.ensures.second) (subst R (take_rest piece (first + 16)) m.ensures.spells)) is.some one
    (omega (arith, c.if-pointed-lt-AT_ONCE.false)) (omega arith) in
    let T : Exact → Type 0 = λ e. StartsWithNumber piece e (first + 16 + m.result.0) in
    let digits = m.ensures.few in
    subst T (sym c.new.ensures)
    (long_start piece negative _ _ (first + 16 + m.result.0) plain d.result.0 d.result.1 _ d.ensures.all d.ensures.last d.ensures.below (omega (arith, ints))
    (omega (arith, ints)) (omega arith) (c.is_behind.ensures c.if-not-is_behind.false))

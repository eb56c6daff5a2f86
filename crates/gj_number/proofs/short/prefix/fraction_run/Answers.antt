use Rattle.gj_number.proofs.Common.{SpellsOn, arith, subst, ℕ, ◌*◌, ◌+◌, ◌-◌, ◌^◌, ◌≡◌}
use Rattle.gj_number.proofs.Literals.DigitBounds.{scaled_below}
use Rattle.gj_number.proofs.Shorts.RunEnds.{rest_of_run}
use Rattle.gj_number.proofs.Shorts.NumberPrefixes.{natural_fits, none_spells, joined_fits, joined_below, joined_spells, spells_more, spells_rest}
use Rattle.gj_number.proofs.short.prefix.fraction_run.Goals as goal

pub overflow_mul-both : goal.overflow_mul-both
overflow_mul-both c =
    let l = joined_fits _ _ _ _ _ c.requires.below c.first_digits-count.ensures.spells c.if-count-natural.false c.requires.count in
    rw (c.ten_to.ensures) (omega arith)

pub overflow_add-both : goal.overflow_add-both
overflow_add-both c =
    let l = joined_fits _ _ _ _ _ c.requires.below c.first_digits-count.ensures.spells c.if-count-natural.false c.requires.count in
    rw (c.ten_to.ensures) (omega arith)

pub returns-then-count-natural : goal.returns-then-count-natural
returns-then-count-natural c = record {
  spells = none_spells c.args.piece.now c.args.natural.value;
  few = omega arith;
  small = natural_fits c.args.natural.value c.args.natural.count c.requires.below c.requires.count;
  whole = λ count r few. let k = c.first_digits-count.ensures.whole count r in omega arith;
}

pub returns-then-count-lt-AT_ONCE : goal.returns-then-count-lt-AT_ONCE
returns-then-count-lt-AT_ONCE c = record {
  spells = rw (c.ten_to.ensures) (joined_spells _ _ _ _ c.first_digits-count.ensures.spells);
  few = c.if-count-natural.false;
  small = rw (c.ten_to.ensures) (joined_fits _ _ _ _ _ c.requires.below c.first_digits-count.ensures.spells c.if-count-natural.false c.requires.count);
  whole = λ count r few. let k = c.first_digits-count.ensures.whole count r in omega arith;
}

pub first_run-rest-requires-clause-room : goal.first_run-rest-requires-clause-room
first_run-rest-requires-clause-room c =
    let natural = c.args.natural in
    let count = c.first_digits-count.result.0 in
    let below = joined_below natural.value natural.count count c.first_digits-count.result.1 c.args.piece.now c.requires.below
    c.first_digits-count.ensures.spells in
    scaled_below _ (natural.count + count) (18 - 16 - natural.count) 18 (rw (c.ten_to.ensures) below) (omega arith)

pub returns : goal.returns
returns c =
    let piece = c.args.piece.now in
    let natural = c.args.natural in
    let rest = c.first_run-rest in
    let m = rest.result.count in
    let most = rest.ensures.few in
    let n = c.first_digits-count.result.0 in
    let sixteen : n ≡ 16 = (let f = c.first_digits-count.ensures.few in let g = c.if-count-lt-AT_ONCE.false in omega arith) in
    record {
      spells =
          let P : ℕ → Type 0 = λ k. SpellsOn piece natural.value k (natural.value * 10 ^ n + c.first_digits-count.result.1) in
          spells_more piece natural.value 16 m _ _ (rw (c.ten_to.ensures) (subst P sixteen (joined_spells _ _ _ _ c.first_digits-count.ensures.spells)))
          (spells_rest piece 16 _ m _ rest.ensures.spells);
      few = omega arith;
      small = rest.ensures.small;
      whole = λ count r few.
          let k = c.first_digits-count.ensures.whole count r in
          let e = rest.ensures.whole (count - 16) (rest_of_run piece 16 count (omega arith) r) (omega arith) in
          omega arith;
    }

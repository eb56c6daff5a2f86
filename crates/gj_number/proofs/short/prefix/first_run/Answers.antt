use Rattle.gj_number.proofs.Common.{IsDigit, arith, get_or, length, refl, subst, take, with_digit, ℕ, ◌+◌, ◌-◌, ◌<◌, ◌≡◌}
use Rattle.std.proofs.Common.{All}
use Rattle.std.proofs.lemmas.List.Elements.{All-more}
use Rattle.std.proofs.lemmas.List.Sums.{fold_more}
use Rattle.gj_number.proofs.Shorts.RunEnds.{run_found}
use Rattle.gj_number.proofs.Shorts.NumberPrefixes.{digit_room, digit_byte, other_byte, room_left}
use Rattle.gj_number.proofs.short.prefix.first_run.Goals as goal

pub returns-then-digit-gt9-clause-small : goal.returns-then-digit-gt9-clause-small
returns-then-digit-gt9-clause-small c = room_left c.loop-count.value (c.args.most - c.loop-count.count) c.loop-count.invariant.room

pub overflow_mul-value : goal.overflow_mul-value
overflow_mul-value c =
    let more : c.args.most - c.loop-count.count ≡ c.args.most - (c.loop-count.count + 1) + 1 = omega arith in
    let r = digit_room c.loop-count.value _ _ c.if-digit-gt9.false (rw more at c.loop-count.invariant.room) in
    omega arith

pub overflow_add-value : goal.overflow_add-value
overflow_add-value c =
    let more : c.args.most - c.loop-count.count ≡ c.args.most - (c.loop-count.count + 1) + 1 = omega arith in
    let r = digit_room c.loop-count.value _ _ c.if-digit-gt9.false (rw more at c.loop-count.invariant.room) in
    omega arith

pub loop-count-preserved : goal.loop-count-preserved
loop-count-preserved c =
    let piece = c.args.piece.now in
    let i = c.loop-count.count in
    let b = digit_byte (get_or piece i 0) (c.type_inv.piece i).fits c.if-digit-gt9.false in
    let within : i < length piece = omega arith in
    let more : c.args.most - i ≡ c.args.most - (i + 1) + 1 = omega arith in
    let r = digit_room c.loop-count.value _ _ c.if-digit-gt9.false (rw more at c.loop-count.invariant.room) in
    record {
      digits = All-more IsDigit piece i 0 within c.loop-count.invariant.digits b.0;
      value_is = rw (fold_more with_digit c.args.before piece i 0 within, ← c.loop-count.invariant.value_is, b.1) refl;
      room = r.1;
    }

pub returns-then-digit-gt9-clause-whole : goal.returns-then-digit-gt9-clause-whole
returns-then-digit-gt9-clause-whole c = λ count r few.
    let piece = c.args.piece.now in
    let i = c.loop-count.count in
    let byte = (c.type_inv.piece i).fits in
    run_found piece i count (omega arith) c.loop-count.invariant.digits (λ l d. other_byte (get_or piece i 0) byte c.if-digit-gt9.true d) r

pub returns-clause-whole : goal.returns-clause-whole
returns-clause-whole c = λ count r few.
    let piece = c.args.piece.now in
    let P : ℕ → Type 0 = λ n. All IsDigit (take n piece) in
    let all = subst P {x = c.loop-count.count} {y = c.args.most} (omega arith) c.loop-count.invariant.digits in
    run_found piece c.args.most count (omega arith) all (λ l. absurd (omega arith)) r

use Rattle.std.proofs.Common.{arith, refl, ◌≡◌, ◌<◌, ◌∙◌, ℕ, subst, sym, length}
use Rattle.file_parts.proofs.JoinedVerdicts.{whole_text, same_joined, more_joined, counted_more, few_before, one_more}
use Rattle.std.specs.Prelude.{IsSome}
use Rattle.file_parts.specs.Internal.Covered.{GoTo}
use Rattle.file_parts.proofs.WholeText.{next_part, is_next, is_passed, counted_on, whole_covered}
use Rattle.file_parts.proofs.joining.join_parts.Goals as goal
use Rattle.file_parts.proofs.joining.join_parts.Goals.{then-part+else-part-end+in-Some, else-part}

pub loop-part-init : goal.loop-part-init
loop-part-init c = record {
  joined = λ framing limits text all. record { within = omega arith; verdict_of_it = c.nothing-whole.ensures.verdict framing limits };
  within = omega arith;
  covered = λ framing limits text all. refl;
  few = λ most all. omega (arith, c.nothing-whole.ensures.none);
}

pub loop-part-preserved : goal.loop-part-preserved
loop-part-preserved c = record {
  joined = λ framing limits text all. elim c.if-part.branch [
    | then-part+else-part-end+in-Some w ↦ same_joined framing limits text _ c.if-part.end w.in-Some.joined c.if-part.whole w.end-is w.whole-is
        (more_joined framing limits text _ c.loop-part.end c.loop-part.whole w.in-Some.joined
        (all c.loop-part.part-index _ c.loop-part-test.true) w.if-part.true
        w.if-part-end.false (c.loop-part.invariant.joined framing limits text all) w.in-Some.ensures.joined)
    | else-part w ↦ same_joined framing limits text c.loop-part.end c.if-part.end c.loop-part.whole c.if-part.whole w.end-is w.whole-is
        (c.loop-part.invariant.joined framing limits text all)
  ];
  within = omega (arith, c.loop-part-test.true);
  covered = λ framing limits text all.
      let i = c.loop-part.part-index in
      let parts = length c.args.parts.now in
      let within : i < parts = c.loop-part-test.true in
      let next = next_part framing limits text parts (omega (arith, within)) i c.loop-part.end _ _ (omega (arith, within))
      (c.loop-part.invariant.covered framing limits text all) (all i _ within) in
      elim c.if-part.branch [
        | then-part+else-part-end+in-Some w ↦ counted_on framing limits text parts i _ c.if-part.end w.end-is
            (is_next framing limits text parts i c.loop-part.end _ _ w.if-part.true next).1
        | else-part w ↦ counted_on framing limits text parts i c.loop-part.end c.if-part.end w.end-is
            (is_passed framing limits text parts i c.loop-part.end _ _ w.if-part.false next)
      ];
  few = λ most all.
      let before = c.loop-part.invariant.few most all in
      elim c.if-part.branch [
        | then-part+else-part-end+in-Some w ↦ rw w.whole-is (counted_more c.loop-part.part-index most _ _ _ (all c.loop-part.part-index _ c.loop-part-test.true)
            before w.in-Some.ensures.records)
        | else-part w ↦ rw w.whole-is (omega (arith, one_more c.loop-part.part-index most, before))
      ];
}

pub returns-in-None-clause-few : goal.returns-in-None-clause-few
returns-in-None-clause-few c = λ most small all e.
    let i = c.loop-part.part-index in
    let has = all i _ c.loop-part-test.true in
    let few = few_before i (length c.args.parts.now) most _ _ c.loop-part-test.true small has (c.loop-part.invariant.few most all) in
    let some = subst IsSome c.in-None.is (c.with_part.ensures.fits has.places few) in cc

pub returns-then-part-end-clause-complete : goal.returns-then-part-end-clause-complete
returns-then-part-end-clause-complete c = λ framing limits text long some all e.
    let i = c.loop-part.part-index in
    let parts = length c.args.parts.now in
    let within : i < parts = c.loop-part-test.true in
    let next = next_part framing limits text parts some i c.loop-part.end _ _ (omega (arith, within))
    (c.loop-part.invariant.covered framing limits text all) (all i _ within) in
    c.if-part-end.true (is_next framing limits text parts i c.loop-part.end _ _ c.if-part.true next).0

pub returns-else-end-size-clause-complete : goal.returns-else-end-size-clause-complete
returns-else-end-size-clause-complete c = λ framing limits text long some all e.
    let parts = length c.args.parts.now in
    let place = c.loop-part.end in
    let same : c.loop-part.part-index ≡ parts = omega (arith, c.loop-part.invariant.within, c.loop-part-test.false) in
    let reached = subst (λ (n : ℕ). GoTo framing limits text parts n place) same (c.loop-part.invariant.covered framing limits text all) in
    c.if-end-size.false (whole_covered framing limits text parts some place reached ∙ long)

pub returns-then-end-size : goal.returns-then-end-size
returns-then-end-size c = record {
  whole = λ framing limits text long all. whole_text framing limits text c.loop-part.end c.loop-part.whole (long ∙ sym c.if-end-size.true)
      (c.loop-part.invariant.joined framing limits text all);
  complete = λ framing limits text long some all e. cc;
  few = λ most small all e. cc;
}

-- One position more, and what is written at the end.
use Rattle.gj_coords.proofs.Common.{IsCutPosition, ap, arith, rules, subst, sym, ◌∙◌}
use Rattle.std.proofs.Common.{◌≡◌, ◌<◌, length, None}
use Rattle.gj_coords.proofs.Walks.CutPositions.{cuts_more, cuts_written, with_cuts}
use Rattle.gj_coords.proofs.ring.Positions.add_cuts.Goals as goal
use Rattle.gj_coords.proofs.ring.Positions.add_cuts.Goals.{then-loop-at-test+else-adds, else-loop-at-test}

pub loop-at-preserved : goal.loop-at-preserved
loop-at-preserved c =
    let i = c.loop-at.invariant in
    let s = c.args.self.now in
    let old = c.loop-at.added in
    let new = c.adds.new.self in
    let element = c.index-positions-at in
    let one = c.adds.ensures in
    let none : s.fault ≡ None = search rules in
    let less : c.loop-at.at < length c.args.positions.now = omega (arith, c.loop-at-test.true, c.at_once-most.ensures.few) in
    record {
      within = omega (arith, c.loop-at-test.true);
      least = one.least;
      few = omega (arith, one.few, i.few);
      added = cuts_more s c.args.positions.now element.result c.loop-at.at c.in-Some.first c.in-Some-corner.start old new less none c.in-Some.is
          (sym c.corner.ensures ∙ c.in-Some-corner.is)
          (λ flat is. one.added c.if-adds.true flat (subst (λ p. IsCutPosition p flat) (sym element.is) is)) i.added;
    }

pub returns-then-at-gt0-clause-added : goal.returns-then-at-gt0-clause-added
returns-then-at-gt0-clause-added c = λ flats are.
    let s = c.args.self.now in
    let same : c.loop-at-test.added ≡ c.loop-at.added = elim c.loop-at-test.branch [
      | then-loop-at-test+else-adds w ↦ w.added-is ∙ w.adds.ensures.same w.if-adds.false
      | else-loop-at-test w ↦ w.added-is
    ] in
    cuts_written s c.loop-at.at c.loop-at-test.added c.set_running_sum.new.self c.note.new.warned (omega (arith, c.if-at-gt0.true)) c.set_running_sum.ensures
    c.note.ensures ∙ ap (with_cuts s c.loop-at.at) same ∙ c.loop-at.invariant.added flats are

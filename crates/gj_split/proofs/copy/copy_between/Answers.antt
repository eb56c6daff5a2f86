use Rattle.gj_split.proofs.Common.{Appends, arith, subst, ◌≤◌}
use Rattle.std.proofs.KnownBytes.{Appends-trans}
use Rattle.gj_split.proofs.ReadParts.{part_read, more_between}
use Rattle.gj_split.proofs.copy.copy_between.Goals as goal

pub loop-at-preserved : goal.loop-at-preserved
loop-at-preserved g c =
    let due = c.count_within-due.result in
    let few : due ≤ c.in-Ok.count = omega (arith, c.count_within-due.ensures) in
    record {
      from = omega (arith, c.loop-at.invariant.from);
      upto = omega (arith, c.loop-at.invariant.from, c.count_within-due.ensures, c.loop-at-test.true);
      copied = λ bytes e.
          subst (λ xs. Appends (g.W.Write.contents c.args.out.now) (g.W.Write.contents c.write_all.new.self) xs)
          (more_between c.args.place c.loop-at.at due c.in-Ok.count c.read_at.new.piece bytes c.loop-at.invariant.from few c.in-Ok.ensures.bound.0
          (part_read _ _ c.loop-at.at c.in-Ok.count c.read_at.new.piece bytes c.in-Ok.ensures.bytes e))
          (Appends-trans _ _ _ _ _ (c.loop-at.invariant.copied bytes e) c.in-Ok-write_all.ensures.bytes);
    }

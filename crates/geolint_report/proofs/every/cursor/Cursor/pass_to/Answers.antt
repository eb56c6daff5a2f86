use Rattle.geolint_report.proofs.Common.{arith, ◌∙◌, ℕ, List, Option, subst, sym}
use Rattle.std.proofs.lemmas.List.{length-take}
use Rattle.geolint_report.specs.Cursors.{StandsBy}
use Rattle.geolint_report.proofs.every.cursor.Cursor.pass_to.Goals as goal

pub loop-self-preserved : goal.loop-self-preserved
loop-self-preserved g c =
    let here = c.loop-self.invariant.text in
    let passed = c.in_ok-pass_some.ensures.count in
    record {
      stands = λ begun.
          subst (λ (text : Option (List ℕ)). StandsBy text c.pass_some.new.self) here
          (c.pass_some.ensures.stands (subst (λ (text : Option (List ℕ)). StandsBy text c.loop-self.self) (sym here) (c.loop-self.invariant.stands begun)));
      text = c.pass_some.ensures.text ∙ here;
      framing = c.pass_some.ensures.framing ∙ c.loop-self.invariant.framing;
      unfailed = c.in_ok-pass_some.ensures.failed ∙ c.loop-self.invariant.unfailed;
      under = λ begun. omega (arith, passed, c.lesser-room.ensures, c.loop-self-test.true, length-take c.lesser-room.result c.loop-self.piece);
    }

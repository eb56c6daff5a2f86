-- The bytes of the run are after those before it.
use Rattle.gj_rules.proofs.Common.{Allowed, arith, subst, ◌++◌, ◌∙◌}
use Rattle.std.proofs.Common.{length-append}
use Rattle.std.proofs.Math.Logic.{∥∥₁_map}
use Rattle.gj_rules.specs.Linter.{Answers}
use Rattle.gj_rules.proofs.Sequences.OpenRecords.{last_of_run, answered}
use Rattle.gj_rules.proofs.records.open_record.OpenRecord.feed.Goals as goal

pub invariant_of-self : goal.invariant_of-self
invariant_of-self c =
    let self = c.args.self.now in record {
      wide = self.wide;
      within = c.requires.room;
      fed = ∥∥₁_map self.fed (λ f. (f.0 ++ c.args.run.now, c.feed.ensures.stands f.0 f.1, omega (arith, f.2, length-append f.0 c.args.run.now)));
    }

pub returns-clause-stands : goal.returns-clause-stands
returns-clause-stands c = λ bytes h.
    let all = bytes ++ c.args.run.now in
    let A : Allowed → Type 0 = λ l. Answers l all c.feed.result in record {
      linter = c.feed.ensures.stands bytes h.linter;
      counted = omega (arith, h.counted, length-append bytes c.args.run.now);
      last = last_of_run _ bytes c.args.run.now c.requires.some;
      under = c.feed.ensures.limits ∙ h.under;
      answers = answered c.args.self.now.limits all _ c.feed.result c.feed.ensures.refusal (subst A h.under (c.feed.ensures.answer bytes h.linter));
    }

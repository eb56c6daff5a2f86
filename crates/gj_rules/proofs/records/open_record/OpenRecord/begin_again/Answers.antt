-- The next record without a byte.
use Rattle.gj_rules.proofs.Common.{add-zero, refl, []}
use Rattle.gj_rules.proofs.Sequences.OpenRecords.{none_answered}
use Rattle.gj_rules.proofs.records.open_record.OpenRecord.begin_again.Goals as goal

pub invariant_of-self : goal.invariant_of-self
invariant_of-self c = record {
  wide = c.args.self.now.wide;
  within = c.requires;
  fed = ∣ ([], c.begin_again.ensures.stands, add-zero c.args.next) ∣₁;
}

pub returns-clause-stands : goal.returns-clause-stands
returns-clause-stands c = record {
  linter = c.begin_again.ensures.stands;
  counted = add-zero c.args.next;
  last = refl;
  under = c.begin_again.ensures.limits;
  answers = none_answered c.args.self.now.limits _ c.begin_again.ensures.refusal;
}

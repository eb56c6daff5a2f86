-- It has no byte.
use Rattle.gj_rules.proofs.Common.{add-zero, refl}
use Rattle.gj_rules.proofs.Sequences.OpenRecords.{none_answered}
use Rattle.gj_rules.proofs.records.open_record.OpenRecord.new.Goals as goal

pub returns-clause-stands : goal.returns-clause-stands
returns-clause-stands c = record {
  linter = c.new.ensures.stands;
  counted = add-zero 0;
  last = refl;
  under = c.new.ensures.limits;
  answers = none_answered _ _ c.new.ensures.refusal;
}

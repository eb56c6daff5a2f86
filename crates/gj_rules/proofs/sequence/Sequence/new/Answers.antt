-- No record has begun.
use Rattle.gj_rules.proofs.Common.{ap, not, refl, []}
use Rattle.gj_rules.proofs.Sequences.SequenceSteps.{none_over, none_refused}
use Rattle.gj_rules.proofs.sequence.Sequence.new.Goals as goal

pub invariant_of-result : goal.invariant_of-result
invariant_of-result c = record { framing = c.new.ensures.framing; live = ap not (none_over c.new.result c.new.ensures.stands) }

pub returns-clause-stands : goal.returns-clause-stands
returns-clause-stands c = record {
  found = [];
  stands = c.new.ensures.stands;
  valid = refl;
  refused = none_refused c.one_verdict.ensures.some c.new.result c.new.ensures.framing c.new.ensures.stands;
}

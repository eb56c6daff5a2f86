-- By the one verdict of each record.
use Rattle.gj_rules.proofs.Common.{is_stray, records_of}
use Rattle.gj_rules.proofs.Sequences.OneVerdict.{some_sequence, one_sequence}
use Rattle.gj_rules.proofs.Sequences.SaidSequences.{sequence_said, sequence_is}
use Rattle.gj_rules.proofs.sequence.verdict.one_sequence_verdict.Goals as goal

pub returns-clause-some : goal.returns-clause-some
returns-clause-some c = λ limits bytes. some_sequence c.one_verdict.ensures.some (is_stray bytes) limits.depth (records_of limits bytes)

pub returns-clause-one : goal.returns-clause-one
returns-clause-one c = λ limits bytes first second. one_sequence c.one_verdict.ensures.one (is_stray bytes) limits.depth (records_of limits bytes) first second

pub returns-clause-said : goal.returns-clause-said
returns-clause-said c = λ limits bytes verdict. (
  sequence_said (is_stray bytes) limits.depth (records_of limits bytes) verdict,
  λ (judgement, is, says). sequence_is (is_stray bytes) limits.depth (records_of limits bytes) verdict judgement is says,
)

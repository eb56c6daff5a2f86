-- What its records make it, and what every sequence is that begins so.
use Rattle.gj_rules.proofs.Common.{[], ◌++◌}
use Rattle.gj_rules.proofs.Sequences.SequenceSteps.{ends, judged}
use Rattle.gj_rules.proofs.sequence.Sequence.finish.Goals as goal

pub returns : goal.returns
returns c = λ bytes s.
    let self = c.args.self in
    ends c.one_sequence_verdict.ensures.one self bytes c.end.result.verdict s (λ taken found stands.
    let told = (c.end.ensures.told taken [] found stands tt).have in
    judged self.records taken c.end.result.verdict self.framing (found ++ told.more, told.findings, told.whole))

-- A record is what its bytes are by themselves.
use Rattle.gj_rules.proofs.Common.{part_at}
use Rattle.gj_rules.proofs.Parts.FoundRecords.{numbered_own}
use Rattle.gj_rules.proofs.records.Records.close.Goals as goal

pub returns-then-self-gt0-clause-verdict : goal.returns-then-self-gt0-clause-verdict
returns-then-self-gt0-clause-verdict c = λ given h.
    let self = c.args.self.now in
    numbered_own self.framing self.record.limits.depth self.number (part_at self.record.start given c.args.ending) c.close_as.result c.if-self-gt0.true
    (c.close_as.ensures.verdict given h)

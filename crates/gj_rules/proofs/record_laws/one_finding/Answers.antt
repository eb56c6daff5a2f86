-- By the one verdict of each record.
use Rattle.gj_rules.proofs.Common.{entries_of}
use Rattle.gj_rules.proofs.Parts.OneFinding.{some_findings, one_findings}
use Rattle.gj_rules.proofs.record_laws.one_finding.Goals as goal

pub returns-clause-some : goal.returns-clause-some
returns-clause-some c = λ framing limits bytes. some_findings c.one_verdict.ensures.some framing limits.depth (entries_of framing limits bytes)

pub returns-clause-one : goal.returns-clause-one
returns-clause-one c =
    λ framing limits bytes first second. one_findings c.one_verdict.ensures.one framing limits.depth (entries_of framing limits bytes) first second

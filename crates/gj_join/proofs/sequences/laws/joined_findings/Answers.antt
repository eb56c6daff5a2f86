use Rattle.gj_join.proofs.JoinedFindings.{all-joined}
use Rattle.gj_join.proofs.sequences.laws.joined_findings.Goals as goal

pub returns : goal.returns
returns c = all-joined

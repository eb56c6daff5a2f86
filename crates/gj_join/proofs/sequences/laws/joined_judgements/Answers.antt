use Rattle.gj_join.proofs.JoinedParts.{sequence-joined}
use Rattle.gj_join.proofs.sequences.laws.joined_judgements.Goals as goal

pub returns : goal.returns
returns c = sequence-joined

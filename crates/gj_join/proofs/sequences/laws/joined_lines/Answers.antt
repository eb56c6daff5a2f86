use Rattle.gj_join.proofs.JoinedWholes.{lines-joined}
use Rattle.gj_join.proofs.sequences.laws.joined_lines.Goals as goal

pub returns : goal.returns
returns c = lines-joined

use Rattle.part_lines.proofs.LinesAgree.{agree}
use Rattle.part_lines.proofs.laws.members_say_one_line.Goals as goal

pub returns : goal.returns
returns c = agree

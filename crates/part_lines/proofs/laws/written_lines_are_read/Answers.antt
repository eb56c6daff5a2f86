use Rattle.part_lines.proofs.LinesRead.{line-read}
use Rattle.part_lines.proofs.laws.written_lines_are_read.Goals as goal

pub returns : goal.returns
returns c = line-read

use Rattle.std.proofs.Common.{append_assoc}
use Rattle.geolint_files.specs.SplitLine.{written_line}
use Rattle.geolint_files.proofs.parts.put_written.Goals as goal

pub returns : goal.returns
unfolding written_line
returns c = simp (append_assoc, c.in_ok-put_count.ensures, c.in_ok-put_count-2.ensures) at c.put_missing.ensures

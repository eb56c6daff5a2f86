use Rattle.std.proofs.Common.{append_assoc}
use Rattle.geolint_files.specs.SplitLine.{count_in}
use Rattle.geolint_files.proofs.parts.put_count.Goals as goal

pub returns : goal.returns
unfolding count_in
returns c = simp (append_assoc, c.in_ok-put.ensures, c.in_ok-put_number.ensures, c.in_ok-put-2.ensures) at c.put_part.ensures

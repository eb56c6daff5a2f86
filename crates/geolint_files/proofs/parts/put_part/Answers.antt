use Rattle.std.proofs.Common.{append_assoc}
use Rattle.geolint_files.specs.SplitLine.{part_name}
use Rattle.geolint_files.proofs.parts.put_part.Goals as goal

pub returns : goal.returns
unfolding part_name
returns c =
    simp (append_assoc, c.in_ok-put_name.ensures, c.as_slice.ensures.value, c.as_bytes.ensures.value, c.ending.ensures) at c.put.ensures

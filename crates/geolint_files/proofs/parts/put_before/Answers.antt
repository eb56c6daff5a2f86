use Rattle.std.proofs.Common.{append_assoc}
use Rattle.geolint_files.specs.SplitLine.{only_before}
use Rattle.geolint_files.proofs.parts.put_before.Goals as goal

pub returns : goal.returns
unfolding only_before
returns c =
    simp (append_assoc, c.in_ok-put.ensures, c.in_ok-put-2.ensures, c.in_ok-put-3.ensures, c.in_ok-put_name.ensures) at c.put-4.ensures

use Rattle.report_forms.proofs.Common.{append_assoc}
use Rattle.report_forms.specs.Forms.Sarif.{sarif_more}
use Rattle.report_forms.proofs.formats.sarif.put_more.Goals as goal

pub returns : goal.returns
unfolding sarif_more
returns c =
    simp (append_assoc, c.in_ok-put.ensures, c.in_ok-put_and_more.ensures, c.in_ok-put-2.ensures, c.in_ok-put_location.ensures) at c.put-3.ensures

use Rattle.report_forms.proofs.Common.{append_assoc}
use Rattle.report_forms.specs.Forms.Sarif.{sarif_end}
use Rattle.report_forms.proofs.formats.sarif.put_end.Goals as goal

pub returns : goal.returns
unfolding sarif_end
returns c =
    let so_far = simp (append_assoc, c.in_ok-put.ensures, c.in_ok-put_truth.ensures, c.has_read_all.ensures) at c.in_ok-put-2.ensures in
    simp (append_assoc, so_far, c.in_ok-put-3.ensures) at c.put-4.ensures

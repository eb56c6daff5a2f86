use Rattle.report_forms.proofs.Common.{append_assoc}
use Rattle.report_forms.specs.Forms.Sarif.{region}
use Rattle.report_forms.proofs.formats.sarif.put_region.Goals as goal

pub returns : goal.returns
unfolding region
returns c =
    let so_far = simp (append_assoc, c.in_ok-put.ensures, c.in_ok-put_region_start_of.ensures) at c.in_ok-put-2.ensures in
    simp (append_assoc, so_far, c.in_ok-put_number.ensures) at c.put-3.ensures

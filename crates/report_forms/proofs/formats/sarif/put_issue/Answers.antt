use Rattle.report_forms.proofs.Common.{append_assoc}
use Rattle.report_forms.specs.Forms.Sarif.{sarif_result}
use Rattle.report_forms.proofs.formats.sarif.put_issue.Goals as goal

pub returns : goal.returns
unfolding sarif_result
returns c =
    let message = simp (c.new-message.ensures.items, c.in_ok-put_message.ensures, c.as_slice.ensures.value) at c.in_ok-put_string.ensures in
    let so_far1 = simp (append_assoc, c.in_ok-put.ensures, c.in_ok-put_name.ensures, c.in_ok-put-2.ensures, c.level.ensures) at c.in_ok-put-3.ensures in
    let so_far2 = simp (append_assoc, so_far1, c.in_ok-put-4.ensures, message) at c.in_ok-put-5.ensures in
    let so_far3 = simp (append_assoc, so_far2, c.in_ok-put_location.ensures, c.in_ok-put_region_if.ensures) at c.in_ok-put-6.ensures in
    simp (append_assoc, so_far3, c.in_ok-put_logical_location_of.ensures, c.path.ensures) at c.put-7.ensures

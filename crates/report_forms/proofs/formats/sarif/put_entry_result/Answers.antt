use Rattle.report_forms.proofs.Common.{append_assoc}
use Rattle.report_forms.specs.Forms.Sarif.{sarif_entry}
use Rattle.report_forms.proofs.formats.sarif.put_entry_result.Goals as goal

pub returns : goal.returns
unfolding sarif_entry
returns c =
    let so_far = simp (append_assoc, c.in_ok-put.ensures, c.in_ok-put_name.ensures, c.in_ok-put-2.ensures) at c.in_ok-put-3.ensures in
    simp (append_assoc, so_far, c.in_ok-put-4.ensures, c.in_ok-put_entry_message.ensures, c.in_ok-put_place.ensures) at c.put_properties.ensures

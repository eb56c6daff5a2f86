use Rattle.report_forms.proofs.Common.{append_assoc}
use Rattle.report_forms.specs.Forms.Text.{text_warning}
use Rattle.report_forms.proofs.formats.text.put_warning.Goals as goal

pub returns : goal.returns
unfolding text_warning
returns c =
    let so_far1 = simp (append_assoc, c.in_ok-put.ensures, c.in_ok-put_name.ensures, c.in_ok-put-2.ensures) at c.in_ok-put_number.ensures in
    let so_far2 = simp (append_assoc, so_far1, c.in_ok-put-3.ensures, c.in_ok-put_number-2.ensures) at c.in_ok-put-4.ensures in
    simp (append_assoc, so_far2, c.in_ok-put_text.ensures) at c.put-5.ensures

use Rattle.report_forms.proofs.Common.{append_assoc}
use Rattle.report_forms.specs.Forms.Text.{text_entry}
use Rattle.report_forms.proofs.formats.text.put_entry.Goals as goal

pub returns : goal.returns
unfolding text_entry
returns c =
    let so_far1 = simp (append_assoc, c.in_ok-put_item.ensures, c.in_ok-put_id_behind.ensures, c.in_ok-put.ensures) at c.in_ok-put_word.ensures in
    let so_far2 = simp (append_assoc, so_far1, c.in_ok-put-2.ensures, c.in_ok-put_name.ensures) at c.in_ok-put_place.ensures in
    simp (append_assoc, so_far2, c.in_ok-put_text.ensures) at c.put-3.ensures

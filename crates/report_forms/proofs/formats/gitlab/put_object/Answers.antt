use Rattle.report_forms.proofs.Common.{append_assoc}
use Rattle.report_forms.specs.Forms.Gitlab.{gitlab_object}
use Rattle.report_forms.proofs.formats.gitlab.put_object.Goals as goal

pub returns : goal.returns
unfolding gitlab_object
returns c =
    let shown = simp (c.new-shown.ensures.items, c.in_ok-put_name.ensures, c.as_slice.ensures.value) at c.in_ok-put_string-2.ensures in
    let so_far1 = simp (append_assoc, c.in_ok-put.ensures, c.in_ok-put_string.ensures, c.in_ok-put-2.ensures) at c.in_ok-put-3.ensures in
    let so_far2 = simp (append_assoc, so_far1, c.in_ok-put-4.ensures, c.as_bytes.ensures.value, c.in_ok-fingerprint.ensures) at c.in_ok-put-5.ensures in
    let so_far3 = simp (append_assoc, so_far2, c.in_ok-put-6.ensures, c.in_ok-put-7.ensures) at c.in_ok-put-8.ensures in
    let so_far4 = simp (append_assoc, so_far3, shown, c.in_ok-put-9.ensures, c.line_of.ensures) at c.in_ok-put_number.ensures in
    simp (append_assoc, so_far4) at c.put-10.ensures

use Rattle.report_forms.proofs.Common.{append_assoc, string_bytes, on_ok_weaker}
use Rattle.report_forms.specs.Forms.Json.{json_line}
use Rattle.report_forms.proofs.formats.json.put_report.Goals as goal

pub returns : goal.returns
unfolding json_line
returns c =
    let (found, is_found, added) = c.in_ok-put_found.ensures in
    let so_far = simp (append_assoc, c.as_bytes.ensures.value, c.in_ok-put_head.ensures, c.in_ok-put_fault.ensures, added) at c.in_ok-put_hint.ensures in
    on_ok_weaker c.put-2.result (λ adds. (string_bytes c.in_ok-name.name, found, c.in_ok-name.ensures, is_found, adds))
    (simp (append_assoc, so_far, c.in_ok-put.ensures, c.in_ok-put_all_warnings.ensures) at c.put-2.ensures)

use Rattle.report_forms.proofs.Common.{append_assoc, string_bytes, on_ok_weaker}
use Rattle.report_forms.specs.Forms.Json.{json_entry}
use Rattle.report_forms.proofs.formats.json.put_entry.Goals as goal

pub returns : goal.returns
unfolding json_entry
returns c =
    let so_far1 = simp (append_assoc, c.in_ok-put.ensures, c.as_bytes.ensures.value, c.in_ok-put-2.ensures, c.in_ok-put-3.ensures) at c.in_ok-put_members.ensures in
    let so_far2 = simp (append_assoc, so_far1, c.as_bytes-2.ensures.value, c.spot_at.ensures, c.path_at.ensures) at c.in_ok-put_told.ensures in
    on_ok_weaker c.put-4.result (λ adds. (string_bytes c.in_ok-name.name, string_bytes c.in_ok-id.id, c.in_ok-name.ensures, c.in_ok-id.ensures, adds))
    (simp (append_assoc, so_far2) at c.put-4.ensures)

use Rattle.report_forms.proofs.Common.{append_assoc, string_bytes, on_ok_weaker}
use Rattle.report_forms.specs.Forms.Json.{json_more}
use Rattle.report_forms.proofs.formats.json.put_more.Goals as goal

pub returns : goal.returns
unfolding json_more
returns c =
    let so_far = simp (append_assoc, c.in_ok-put.ensures, c.as_bytes.ensures.value, c.in_ok-put-2.ensures, c.in_ok-put-3.ensures) at c.in_ok-put_number.ensures in
    on_ok_weaker c.put-4.result (λ adds. (string_bytes c.in_ok-name.name, c.in_ok-name.ensures, adds)) (simp (append_assoc, so_far) at c.put-4.ensures)

use Rattle.report_forms.proofs.Common.{append_assoc}
use Rattle.report_forms.specs.Forms.Json.{json_told}
use Rattle.report_forms.proofs.formats.json.put_told.Goals as goal

pub returns : goal.returns
unfolding json_told
returns c =
    let so_far = simp (append_assoc, c.in_ok-put.ensures, c.in_ok-put_name.ensures, c.in_ok-put-2.ensures) at c.in_ok-put_text.ensures in
    simp (append_assoc, so_far, c.in_ok-put-3.ensures, c.in_ok-put_number.ensures, c.in_ok-put_spot.ensures) at c.put_path_member.ensures

use Rattle.report_forms.proofs.Common.{append_assoc, string_bytes, subst, List, ℕ, on_ok_weaker}
use Rattle.gj_places.specs.Strings.{SpellsString}
use Rattle.report_forms.specs.Forms.Json.{json_unread}
use Rattle.report_forms.proofs.formats.json.put_unread.Goals as goal

pub returns : goal.returns
unfolding json_unread
returns c =
    let why = string_bytes c.in_ok-why.why in
    let spelled = subst (λ (text : List ℕ). SpellsString text why) c.as_bytes.ensures.value c.in_ok-why.ensures in
    let so_far = simp (append_assoc, c.in_ok-put.ensures, c.as_bytes-2.ensures.value, c.in_ok-put-2.ensures, c.in_ok-put-3.ensures) at c.in_ok-put-4.ensures in
    on_ok_weaker c.put-5.result (λ adds. (string_bytes c.in_ok-file.file, why, c.in_ok-file.ensures, spelled, adds))
    (simp (append_assoc, so_far, c.as_bytes-3.ensures.value) at c.put-5.ensures)

use Rattle.report_forms.proofs.Common.{append_assoc}
use Rattle.report_forms.specs.Forms.Json.{json_head}
use Rattle.report_forms.proofs.formats.json.put_head.Goals as goal

pub returns : goal.returns
unfolding json_head
returns c =
    let so_far1 = simp (append_assoc, c.in_ok-put.ensures, c.in_ok-put-2.ensures, c.in_ok-put-3.ensures, c.word.ensures) at c.in_ok-put-4.ensures in
    let so_far2 = simp (append_assoc, so_far1, c.in_ok-put-5.ensures, c.in_ok-put_truth.ensures) at c.in_ok-put-6.ensures in
    simp (append_assoc, so_far2, c.in_ok-put_optional.ensures, c.record.ensures, c.in_ok-put-7.ensures, c.records.ensures) at c.put_optional-2.ensures

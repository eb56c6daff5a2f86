use Rattle.report_forms.proofs.Common.{append_assoc}
use Rattle.report_forms.specs.Forms.Sarif.{sarif_rule}
use Rattle.report_forms.proofs.formats.sarif.put_rule.Goals as goal

pub returns : goal.returns
unfolding sarif_rule
returns c =
    let so_far = simp (append_assoc, c.in_ok-put.ensures, c.in_ok-put_name.ensures, c.in_ok-put-2.ensures) at c.in_ok-put_text.ensures in
    simp (append_assoc, so_far, c.in_ok-put-3.ensures, c.in_ok-put_section.ensures, c.in_ok-put_markdown.ensures, c.in_ok-put-4.ensures, c.in_ok-put-5.ensures, c.code_level.ensures) at c.put-6.ensures

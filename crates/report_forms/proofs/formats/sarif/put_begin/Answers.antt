use Rattle.report_forms.proofs.Common.{append_assoc}
use Rattle.report_forms.specs.Forms.Sarif.{sarif_begin}
use Rattle.report_forms.proofs.formats.sarif.put_begin.Goals as goal

pub returns : goal.returns
unfolding sarif_begin
returns c = simp (append_assoc, c.in_ok-put.ensures, c.in_ok-put_rules.ensures, c.in_ok-put_rule.ensures) at c.put-2.ensures

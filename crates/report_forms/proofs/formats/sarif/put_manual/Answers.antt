use Rattle.report_forms.proofs.Common.{append_assoc}
use Rattle.report_forms.specs.Forms.Sarif.{manual_member}
use Rattle.report_forms.proofs.formats.sarif.put_manual.Goals as goal

pub returns : goal.returns
unfolding manual_member
returns c = simp (append_assoc, c.in_ok-put.ensures, c.as_bytes.ensures.value, c.section.ensures) at c.put_string.ensures

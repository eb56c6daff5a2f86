use Rattle.report_forms.proofs.Common.{append_assoc}
use Rattle.report_forms.specs.Forms.Sarif.{explained}
use Rattle.report_forms.proofs.formats.sarif.put_explained.Goals as goal

pub returns : goal.returns
unfolding explained
returns c = simp (append_assoc, c.in_ok-put_name_and_text.ensures, c.in_ok-put.ensures, c.in_ok-put_name.ensures) at c.put-2.ensures

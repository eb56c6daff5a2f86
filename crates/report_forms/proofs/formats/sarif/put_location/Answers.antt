use Rattle.report_forms.proofs.Common.{append_assoc}
use Rattle.report_forms.specs.Forms.Sarif.{location}
use Rattle.report_forms.proofs.formats.sarif.put_location.Goals as goal

pub returns : goal.returns
unfolding location
returns c = simp (append_assoc, c.in_ok-put.ensures, c.in_ok-put_uri.ensures) at c.put-2.ensures

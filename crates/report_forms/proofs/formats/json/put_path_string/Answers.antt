use Rattle.report_forms.proofs.Common.{append_assoc}
use Rattle.report_forms.specs.Forms.Json.{json_path_string}
use Rattle.report_forms.proofs.formats.json.put_path_string.Goals as goal

pub returns : goal.returns
unfolding json_path_string
returns c = simp (append_assoc, c.in_ok-put.ensures, c.in_ok-put_path.ensures, c.in_ok-put-2.ensures) at c.put_pointer_or_null.ensures

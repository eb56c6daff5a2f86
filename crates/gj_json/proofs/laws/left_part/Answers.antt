use Rattle.gj_json.proofs.Machine.BrokenTexts
use Rattle.gj_json.proofs.laws.left_part.Goals as goal

pub returns : goal.returns
returns c = BrokenTexts.extends

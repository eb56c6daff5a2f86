use Rattle.gj_json.proofs.Machine.BrokenTexts
use Rattle.gj_json.proofs.laws.one_broken.Goals as goal

pub returns : goal.returns
returns c = BrokenTexts.one_broken

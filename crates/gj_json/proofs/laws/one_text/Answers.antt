use Rattle.gj_json.proofs.Machine.MachineTexts
use Rattle.gj_json.proofs.laws.one_text.Goals as goal

pub returns : goal.returns
returns c = MachineTexts.one_text

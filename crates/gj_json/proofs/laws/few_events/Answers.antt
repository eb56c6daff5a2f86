use Rattle.gj_json.proofs.Events.EventCount
use Rattle.gj_json.proofs.laws.few_events.Goals as goal

pub returns : goal.returns
returns c = EventCount.text_few

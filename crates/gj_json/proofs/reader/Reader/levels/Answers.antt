-- The levels that are kept are the containers that are open.
use Rattle.gj_json.proofs.Common.{◌∙◌}
use Rattle.gj_json.proofs.Events.FinishedTexts.{levels_are}
use Rattle.gj_json.proofs.reader.Reader.levels.Goals as goal

pub returns-clause-open : goal.returns-clause-open
returns-clause-open c = λ bytes rest text h t. c.len.ensures.value ∙ levels_are c.args.self.now bytes rest text h t

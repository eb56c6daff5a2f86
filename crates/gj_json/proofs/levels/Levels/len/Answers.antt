-- Each level has a bit in one of the words.
use Rattle.gj_json.proofs.Common.{sym}
use Rattle.gj_json.proofs.Readers.LevelWords.{length-levels}
use Rattle.gj_json.proofs.levels.Levels.len.Goals as goal

pub returns-clause-value : goal.returns-clause-value
returns-clause-value c = sym (length-levels c.args.self.now)

-- The full word goes to the others.
use Rattle.gj_json.proofs.Common.{arith, rules}
use Rattle.gj_json.specs.Internal.OpenLevels.{levels_in}
use Rattle.gj_json.proofs.Readers.LevelWords.{pushed_full}
use Rattle.gj_json.proofs.levels.Levels.push.Goals as goal

pub returns-else-self-lt-WORD : goal.returns-else-self-lt-WORD
unfolding levels_in
returns-else-self-lt-WORD c =
    let old = c.args.self.now in
    pushed_full c.args.level c.bit-bit.result old.inner old.count old.full old.outer c.bit-bit.ensures (omega (arith, old.some, c.if-self-lt-WORD.false))
    (search rules)

-- A name, and the value after it.
use Rattle.gj_json.proofs.Common.{ap, arith, length}
use Rattle.gj_json.specs.Internal.OpenLevels.{levels_in}
use Rattle.gj_json.proofs.Pieces.TokensInLevels.{then_any}
use Rattle.gj_json.proofs.reader.Reader.pass_any_member.Goals as goal

pub returns : goal.returns
returns c =
    let name = c.pass_name-name.ensures in
    then_any name.taken c.pass_value.ensures (omega (arith, ap (λ ls. length (levels_in ls)) name.levels))

use Rattle.gj_places.proofs.Lanes.{chosen}
use Rattle.gj_places.proofs.lines.line_ends.Goals as goal

pub returns : goal.returns
returns c = chosen 16 c.args.bytes.now c.told-bytes

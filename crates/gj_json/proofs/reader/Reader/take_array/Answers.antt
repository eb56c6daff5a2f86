-- No array of numbers, and then a bracket.
use Rattle.gj_json.proofs.Common.{arith}
use Rattle.gj_json.proofs.Pieces.TakenTokens.{nothing_then}
use Rattle.gj_json.proofs.reader.Reader.take_array.Goals as goal

pub returns : goal.returns
returns g c = nothing_then c.take_flats-flats.ensures c.take_rows.ensures (omega (arith, c.if-flats-gt0.false))

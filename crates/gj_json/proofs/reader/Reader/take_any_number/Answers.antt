-- What was read is a number, since it may end there, and its value is that of these bytes.
use Rattle.gj_json.proofs.Common.{arith, sym, []}
use Rattle.std.proofs.Common.{take}
use Rattle.gj_json.proofs.Pieces.TokensInLevels.{token_none}
use Rattle.gj_json.proofs.Readers.CallsInTurn.{of_prefix}
use Rattle.gj_json.proofs.reader.Reader.take_any_number.Goals as goal

pub end_number-requires-clause-number : goal.end_number-requires-clause-number
end_number-requires-clause-number g c =
    (c.may_end.ensures.number (take c.push_piece-count.result c.args.piece.now) (c.push_piece-count.ensures.stands [] c.new-literal.ensures.stands)).0
    c.if-not-may_end.false

pub end_number-requires-clause-value : goal.end_number-requires-clause-value
end_number-requires-clause-value g c = λ hears.
    let stands = c.push_piece-count.ensures.stands [] c.new-literal.ensures.stands in
    let number = (c.may_end.ensures.number (take c.push_piece-count.result c.args.piece.now) stands).0 c.if-not-may_end.false in
    sym (c.value.ensures.value (take c.push_piece-count.result c.args.piece.now) stands number)

pub returns-then-count-piece : goal.returns-then-count-piece
returns-then-count-piece g c = of_prefix (omega arith) (token_none _ _ c.args.self.now c.requires.takes.0)

pub returns-then-is_cut : goal.returns-then-is_cut
returns-then-is_cut g c = of_prefix (omega arith) (token_none _ _ c.args.self.now c.requires.takes.0)

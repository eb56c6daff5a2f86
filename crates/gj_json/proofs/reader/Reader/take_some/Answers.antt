-- Quiet bytes, and then whole tokens or one byte.
use Rattle.gj_json.proofs.Common.{arith, length, ◌<◌}
use Rattle.gj_json.proofs.Readers.CallsInTurn.{front_skipped, some_all, some_to, then_all, then_none}
use Rattle.gj_json.proofs.reader.Reader.take_some.Goals as goal

pub returns-then-quiet-piece : goal.returns-then-quiet-piece
returns-then-quiet-piece g c = (omega arith, front_skipped c.requires.takes c.skip_front-quiet.ensures)

pub returns-then-tokens-gt0 : goal.returns-then-tokens-gt0
returns-then-tokens-gt0 g c =
    (omega (arith, c.if-tokens-gt0.true), then_all (front_skipped c.requires.takes c.skip_front-quiet.ensures) c.take_if_token-tokens.ensures)

-- no token stands whole
pub returns-in-Ok : goal.returns-in-Ok
returns-in-Ok g c =
    let w : c.skip_front-quiet.result < length c.args.piece.now = omega (arith, c.skip_front-quiet.ensures.within, c.if-quiet-piece.false) in
    let fed = then_none (front_skipped c.requires.takes c.skip_front-quiet.ensures) c.take_if_token-tokens.ensures
    (omega (arith, c.if-tokens-gt0.false)) in
    (omega arith, some_all w c.requires.takes fed c.take_byte.ensures c.in-Ok.field-0 c.in-Ok.is)

pub returns-in-Err : goal.returns-in-Err
returns-in-Err g c =
    let w : c.skip_front-quiet.result < length c.args.piece.now = omega (arith, c.skip_front-quiet.ensures.within, c.if-quiet-piece.false) in
    let fed = then_none (front_skipped c.requires.takes c.skip_front-quiet.ensures) c.take_if_token-tokens.ensures
    (omega (arith, c.if-tokens-gt0.false)) in
    some_to w c.requires.takes fed c.take_byte.ensures c.in-Err.fault c.in-Err.is

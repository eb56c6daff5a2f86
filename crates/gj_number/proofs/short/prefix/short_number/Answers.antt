use Rattle.gj_number.proofs.Common.{arith}
use Rattle.gj_number.proofs.Shorts.WrittenExponents.{plain_front}
use Rattle.gj_number.proofs.short.prefix.short_number.Goals as goal

pub returns-in-Some : goal.returns-in-Some
returns-in-Some c = λ some.
    let number = c.near_number.new.number in
    let few = c.in-Some.ensures.few.1 in
    let room = c.requires.room in
    plain_front c.args.piece.now number.negative number.digits number.places c.in-Some.end c.in-Some.ensures.plain number.small number.few (omega arith)
    (c.is_behind.ensures c.if-is_behind.true)

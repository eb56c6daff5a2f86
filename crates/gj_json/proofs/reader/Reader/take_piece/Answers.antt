-- The piece, prefix by prefix, and after each what does not matter to the sink.
use Rattle.gj_json.proofs.Readers.CallsInTurn.{then_all, then_to}
use Rattle.gj_json.proofs.reader.Reader.take_piece.Goals as goal

pub loop-at-preserved : goal.loop-at-preserved
loop-at-preserved g c =
    let some = rw (c.in-Ok-take_some.is) at c.take_some.ensures in
    let passed = rw (c.in-Ok-take_if_opened.is) at c.take_if_opened.ensures in
    then_all (then_all (then_all c.loop-at.invariant some.1) passed) c.take_if_missed-at.ensures

pub returns-in-Err-take_some : goal.returns-in-Err-take_some
returns-in-Err-take_some g c = let some = rw (c.in-Err-take_some.is) at c.take_some.ensures in then_to c.loop-at.invariant some

pub returns-in-Err-take_if_opened : goal.returns-in-Err-take_if_opened
returns-in-Err-take_if_opened g c =
    let some = rw (c.in-Ok-take_some.is) at c.take_some.ensures in
    let passed = rw (c.in-Err-take_if_opened.is) at c.take_if_opened.ensures in
    then_to (then_all c.loop-at.invariant some.1) passed

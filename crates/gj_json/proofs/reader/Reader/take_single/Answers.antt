-- The array is taken as its bytes in turn are.
use Rattle.gj_json.proofs.Pieces.TakenFlats.{flat_taken}
use Rattle.gj_json.proofs.Readers.CallsInTurn.{of_prefix}
use Rattle.gj_json.proofs.reader.Reader.take_single.Goals as goal

pub returns : goal.returns
returns g c =
    let some = c.in-Some.ensures in
    rw (c.skip.ensures.count) (of_prefix some.within
    (flat_taken c.args.self.now c.skip.new.self c.read_lone_flat.new.flat c.args.piece.now c.in-Some.count c.requires.takes.0 c.requires.next.due c.requires.deep
    c.requires.takes.1 some.within some.flat c.skip.ensures.passed (λ events h. c.tell_flat.ensures events h)))

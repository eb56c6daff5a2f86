-- The name of a geometry, and what comes before its coordinates.
use Rattle.gj_json.proofs.Common.{refl}
use Rattle.gj_json.proofs.Pieces.TakenHeads.{found_taken}
use Rattle.gj_json.proofs.Pieces.TakenTokens.{pushed_lands}
use Rattle.gj_json.proofs.Readers.CallsInTurn.{of_prefix}
use Rattle.gj_json.proofs.reader.Reader.take_located.Goals as goal

pub returns : goal.returns
returns g c =
    rw (c.skip.ensures.count) (of_prefix c.requires.found.within
    (found_taken c.args.self.now c.skip.new.self c.args.piece.now c.args.usual.now c.located_here.result c.requires.takes.0 c.requires.due c.requires.takes.1
    c.requires.deep c.requires.found c.located_here.ensures
    (pushed_lands c.args.self.now c.skip.ensures.passed refl refl refl c.push.ensures)
    (λ events h. c.tell_head.ensures events h)))

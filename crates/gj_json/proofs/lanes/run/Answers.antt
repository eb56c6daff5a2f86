-- The first sixteen bytes, and the run after them.
use Rattle.gj_json.proofs.Common.{ap, arith, prefix_len, prefix_len-le-length, ◌+◌, ◌∙◌, ◌≡◌}
use Rattle.gj_json.proofs.Pieces.PieceRests.{rest_of}
use Rattle.gj_json.proofs.lanes.run.Goals as goal

all : (g : _) (c : goal.After-long_run g) → 16 + c.long_run.result ≡ prefix_len g.K.Kind.is c.args.piece.now
all g c =
    let rest = c.long_run.ensures ∙ ap (prefix_len g.K.Kind.is) (rest_of c.args.piece.now 16) in
    omega (arith, rest, c.short_run.ensures.long c.in-None.is)

pub returns-in-None : goal.returns-in-None
returns-in-None g c = all g c

pub overflow_add-result : goal.overflow_add-result
overflow_add-result g c = record { fits = omega (arith, all g c, prefix_len-le-length g.K.Kind.is c.args.piece.now) }

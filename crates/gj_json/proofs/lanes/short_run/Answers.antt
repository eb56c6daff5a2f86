-- The first sixteen bytes.
use Rattle.gj_json.proofs.Common.{ap, arith, sym, ℕ, ◌<◌, ◌∙◌, ◌≡◌}
use lib.Count.{count_trailing_zeros}
use Rattle.gj_json.proofs.Pieces.LaneTests.{lanes_on, lanes_stop}
use Rattle.gj_json.proofs.lanes.short_run.Goals as goal

some_bit : (n m : ℕ) → n ≡ m → 0 < n → 0 < m
some_bit n m e h = omega arith

pub returns-clause-run : goal.returns-clause-run
returns-clause-run g c =
    let same = c.stops-stops.ensures in
    ap (count_trailing_zeros 64) same
    ∙ sym (lanes_stop g.K.Kind.is c.args.piece.now 0 16 (omega arith) (omega arith) (some_bit _ _ same (omega arith))).0

pub returns-clause-short : goal.returns-clause-short
returns-clause-short g c =
    let same = c.stops-stops.ensures in
    let end = lanes_stop g.K.Kind.is c.args.piece.now 0 16 (omega arith) (omega arith) (some_bit _ _ same (omega arith)) in
    omega (arith, end.0, end.1, ap (count_trailing_zeros 64) same)

pub returns-then-stops-eq0-clause-long : goal.returns-then-stops-eq0-clause-long
returns-then-stops-eq0-clause-long g c = λ none. lanes_on g.K.Kind.is c.args.piece.now 0 16 (omega arith) (sym c.stops-stops.ensures ∙ c.if-stops-eq0.true)

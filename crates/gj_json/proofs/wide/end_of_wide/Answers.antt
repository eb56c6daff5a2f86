-- Vector by vector.
use Rattle.gj_json.proofs.Common.{arith, inl}
use Rattle.gj_json.proofs.Pieces.WideRuns.{stops_on, passes_on}
use Rattle.gj_json.proofs.wide.end_of_wide.Goals as goal

pub returns-then-found-ne0-clause-within : goal.returns-then-found-ne0-clause-within
returns-then-found-ne0-clause-within c =
    let k = stops_on c.args.piece.now c.loop-at.at c.loop-at.invariant.behind (omega arith) _ c.ends-found.ensures (omega arith) c.loop-at.invariant.none in
    let few = k.1 in
    (omega arith, omega arith)

pub returns-then-found-ne0-clause-none : goal.returns-then-found-ne0-clause-none
returns-then-found-ne0-clause-none c =
    (stops_on c.args.piece.now c.loop-at.at c.loop-at.invariant.behind (omega arith) _ c.ends-found.ensures (omega arith) c.loop-at.invariant.none).0

pub returns-then-found-ne0-clause-end : goal.returns-then-found-ne0-clause-end
returns-then-found-ne0-clause-end c =
    inl (stops_on c.args.piece.now c.loop-at.at c.loop-at.invariant.behind (omega arith) _ c.ends-found.ensures (omega arith) c.loop-at.invariant.none).2

pub loop-at-preserved : goal.loop-at-preserved
loop-at-preserved c = record {
  behind = omega arith;
  within = omega arith;
  none = passes_on c.args.piece.now c.loop-at.at c.loop-at.invariant.behind (omega arith) _ c.ends-found.ensures (omega arith) c.loop-at.invariant.none;
}

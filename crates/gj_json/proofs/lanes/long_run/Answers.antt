-- Block by block, and then the bytes that fill none.
use Rattle.gj_json.proofs.Common.{arith, prefix_len, prefix_len-le-length, ◌*◌, ◌+◌, ◌≡◌}
use Rattle.gj_json.proofs.Pieces.LaneTests.{block_passes, block_stops, rest_stops}
use Rattle.gj_json.proofs.lanes.long_run.Goals as goal

pub returns-then-stops-ne0 : goal.returns-then-stops-ne0
returns-then-stops-ne0 g c =
    block_stops g.K.Kind.is _ c.loop-index.index _ c.as_chunks.ensures.front c.as_chunks.ensures.front_len c.loop-index.invariant.run
    _ c.loop-index-test.true c.stops-stops.ensures (omega arith)

pub loop-index-preserved : goal.loop-index-preserved
loop-index-preserved g c = record {
  within = omega arith;
  run = block_passes g.K.Kind.is _ c.loop-index.index _ c.as_chunks.ensures.front c.as_chunks.ensures.front_len c.loop-index.invariant.run
      _ c.loop-index-test.true c.stops-stops.ensures (omega arith);
}

all : (g : _) (c : goal.After-few_run g) → c.loop-index.index * 16 + c.few_run.result ≡ prefix_len g.K.Kind.is c.args.piece.now
all g c =
    rest_stops g.K.Kind.is _ c.loop-index.index _ c.as_chunks.ensures.front c.as_chunks.ensures.front_len c.loop-index.invariant.run
    _ c.loop-index.invariant.within c.loop-index-test.false c.as_chunks.ensures.back _ c.few_run.ensures

pub returns : goal.returns
returns g c = all g c

pub overflow_add-result-2 : goal.overflow_add-result-2
overflow_add-result-2 g c = record { fits = omega (arith, all g c, prefix_len-le-length g.K.Kind.is c.args.piece.now) }

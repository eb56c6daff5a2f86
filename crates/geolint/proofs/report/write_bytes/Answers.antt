use Rattle.std.proofs.Common.{rules}
use Rattle.geolint.proofs.RoomWrites.{Appends-take_more}
use Rattle.geolint.proofs.report.write_bytes.Goals as goal

pub loop-at-preserved : goal.loop-at-preserved
loop-at-preserved g c = record {
  within = search rules;
  out = Appends-take_more _ _ _ c.args.bytes.now c.loop-at.at c.in-Ok.count c.loop-at.invariant.within c.loop-at.invariant.out c.in-Ok.ensures.bytes;
  unfailed = search rules;
}

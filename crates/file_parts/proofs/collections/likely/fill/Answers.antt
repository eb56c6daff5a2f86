use Rattle.std.proofs.Common.{◌-◌, ◌∙◌, arith, length}
use Rattle.file_parts.proofs.ReadBytes.{filled_in, put_long}
use Rattle.file_parts.proofs.collections.likely.fill.Goals as goal

pub loop-count-preserved : goal.loop-count-preserved
loop-count-preserved g c =
    let before = c.loop-count.invariant in
    let piece = c.loop-count.piece in
    let part = c.read_from.new.piece in
    let less = c.in_ok-more.ensures.bound.0 in
    record {
      within = omega (arith, less, put_long piece part c.loop-count.count (length piece - c.loop-count.count) before.within);
      text = c.read_from.ensures.text ∙ before.text;
      unfailed = c.in_ok-more.ensures.failed ∙ before.unfailed;
      given = filled_in (g.S.Source.text c.args.source.now) (g.S.Source.text c.loop-count.source) piece part c.args.place c.loop-count.count
          c.in_ok-more.more (length piece - c.loop-count.count) before.within less before.text before.given c.in_ok-more.ensures.bytes;
    }

-- The tokens, one after another.
use Rattle.gj_json.proofs.Common.{arith, length, ◌<◌}
use Rattle.gj_json.specs.Internal.OpenLevels.{levels_in}
use Rattle.gj_json.proofs.Readers.CallsInTurn.{prefix_as, then_none}
use Rattle.gj_json.proofs.Events.IgnoredEvents.{all_more}
use Rattle.gj_json.proofs.Pieces.TokensInLevels.{both_within}
use Rattle.gj_json.proofs.reader.Reader.pass_tokens.Goals as goal

pub loop-at-preserved : goal.loop-at-preserved
loop-at-preserved c =
    let t = c.pass_token-count in
    let above : c.args.floor < length (levels_in c.loop-at.self.levels) =
    omega (arith, c.loop-at.invariant.floor, c.len.ensures.value, c.if-len-floor.false) in
    record {
      floor = omega (arith, above, t.ensures.holds.one);
      taken = both_within c.args.floor c.args.self.now c.loop-at.self t.new.self c.loop-at.invariant.taken
          (prefix_as t.ensures (λ given f. f.within c.args.floor above));
    }

pub returns-then-count-eq0 : goal.returns-then-count-eq0
returns-then-count-eq0 c =
    let t = c.pass_token-count in
    let above : c.args.floor < length (levels_in c.loop-at.self.levels) =
    omega (arith, c.loop-at.invariant.floor, c.len.ensures.value, c.if-len-floor.false) in
    record {
      floor = omega (arith, above, t.ensures.holds.one);
      taken = then_none c.loop-at.invariant.taken
          (prefix_as t.ensures (λ given f. all_more c.args.floor c.args.self.now c.loop-at.self t.new.self given (f.within c.args.floor above)))
          (omega (arith, c.if-count-eq0.true));
    }

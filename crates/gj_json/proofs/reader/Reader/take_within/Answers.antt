-- The piece, prefix by prefix, within levels that are open.
use Rattle.gj_json.proofs.Readers.CallsInTurn.{prefix_as, then_all, then_to}
use Rattle.gj_json.proofs.Events.IgnoredEvents.{all_more, to_more}
use Rattle.gj_json.proofs.Pieces.TokensInLevels.{both_within}
use Rattle.gj_json.proofs.reader.Reader.take_within.Goals as goal

pub loop-at-preserved : goal.loop-at-preserved
loop-at-preserved c =
    let floor = c.args.floor in
    let first = c.args.self.now in
    let mid = c.pass_tokens-at.new.self in
    let last = c.take_some_within.new.self in
    let fed = rw (c.in-Ok.is) at c.take_some_within.ensures.taken in
    record {
      floor = c.take_some_within.ensures.floor;
      taken = then_all (both_within floor first c.loop-at.self mid c.loop-at.invariant.taken c.pass_tokens-at.ensures.taken)
          (prefix_as fed.1 (λ given f. all_more floor first mid last given f));
    }

pub returns-in-Err-clause-taken : goal.returns-in-Err-clause-taken
returns-in-Err-clause-taken c =
    let floor = c.args.floor in
    let first = c.args.self.now in
    let mid = c.pass_tokens-at.new.self in
    let fed = rw (c.in-Err.is) at c.take_some_within.ensures.taken in
    then_to (both_within floor first c.loop-at.self mid c.loop-at.invariant.taken c.pass_tokens-at.ensures.taken)
    (to_more floor first mid c.take_some_within.new.self _ c.in-Err.fault fed)

pub returns-then-at-piece-clause-taken : goal.returns-then-at-piece-clause-taken
returns-then-at-piece-clause-taken c =
    both_within c.args.floor c.args.self.now c.loop-at.self c.pass_tokens-at.new.self c.loop-at.invariant.taken c.pass_tokens-at.ensures.taken

pub returns-then-len-floor-2-clause-taken : goal.returns-then-len-floor-2-clause-taken
returns-then-len-floor-2-clause-taken c =
    both_within c.args.floor c.args.self.now c.loop-at.self c.pass_tokens-at.new.self c.loop-at.invariant.taken c.pass_tokens-at.ensures.taken

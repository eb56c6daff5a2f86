use Rattle.gj_coords.proofs.Common.{ap, sym, ◌∙◌}
use Rattle.std.specs.Prelude.{not}
use Rattle.std.proofs.Common.{◌≡◌, is_none, false}
use Rattle.gj_coords.proofs.Walks.PreciseNumbers.{counted_more}
use Rattle.gj_coords.proofs.cuts.counts.Goals as goal

pub returns-clause-counted : goal.returns-clause-counted
returns-clause-counted c = λ done flat is.
    let some : is_none c.corner.result ≡ false = ap not c.if-is_none.ensures in
    counted_more c.args.position.now flat c.args.precise.now c.with.result is (ap is_none (sym (c.corner.ensures flat is)) ∙ some) c.with.ensures.noted

use Rattle.gj_number.proofs.Common.{rules, ◌≡◌}
use Rattle.gj_number.specs.Exact.{same_parts}
use Rattle.gj_number.proofs.Value.SameDecimals.{same_parts_value}
use Rattle.gj_number.proofs.decimal.DecimalPartialEq.eq.Goals as goal

pub returns-clause-value : goal.returns-clause-value
returns-clause-value c =
    let e : c.eq.result ≡ same_parts c.args.self.now c.args.other.now = search rules in
    rw e (same_parts_value c.args.self.now c.args.other.now c.parts.ensures.limits c.parts-2.ensures.limits)

-- The objects with a role are those of the events that were reported to the rules.
use Rattle.gj_rules.proofs.Common.{Event, List, arith, subst, sym}
use Rattle.gj_rules.specs.Rules.{StandsFor as RulesStandFor}
use Rattle.gj_rules.specs.Linter.{StandsFor}
use Rattle.gj_rules.proofs.linter.Linter.judged.Goals as goal

pub returns : goal.returns
unfolding StandsFor
returns c = record {
  «open» = λ bytes rest text h t.
      let P : List Event → Type 0 = λ xs. RulesStandFor c.args.self.now.rules xs in
      c.judged.ensures text _ _ t.0 (omega (arith, t.1, c.args.self.now.shallow)) (subst P (sym (h.1.complete text rest t.0)) h.1.told);
}

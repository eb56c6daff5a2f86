use Rattle.geolint_files.proofs.Common.{ap, sym, ◌∙◌, Outcome}
use Rattle.geolint_files.specs.Outcome.{worse}
use Rattle.geolint_files.proofs.Runs.WorstOutcome.{worst-more}
use Rattle.geolint_files.proofs.outcome.Outcome.add.Goals as goal

pub returns : goal.returns
returns c = λ outcomes is. c.worse.ensures ∙ ap (λ (first : Outcome). worse first c.args.other) is ∙ sym (worst-more outcomes c.args.other)

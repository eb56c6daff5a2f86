-- Its warnings are those of the sum, since they are counted alike.
use Rattle.std.proofs.Common.{List, sym, subst, ◌∙◌}
use Rattle.gj_coords.specs.Warnings.{kinds}
use Rattle.gj_coords.specs.WarningsStand.{StandsFor}
use Rattle.geolint_c.specs.declared.report.Warned.{Warned}
use Rattle.geolint_c.specs.Sum.{all_said}
use Rattle.geolint_c.proofs.SaidWarnings.{all_kept}
use Rattle.geolint_c.proofs.sum.sum_said.Goals as goal

pub returns-clause-said : goal.returns-clause-said
returns-clause-said c = λ found all says stands.
    let built = c.warnings_said.result in
    let kept = all_kept built all
    (subst (λ (said : List Warned). StandsFor built (all_said kinds said)) (says.warnings all stands) c.warnings_said.ensures) in
    λ i. record { begin = says.begin i; end = says.end i; features = says.features i; warnings = (kept ∙ sym stands) i }

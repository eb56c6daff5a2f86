use Rattle.geolint_report.proofs.Common.{ap, sym, ◌∙◌, Option, Framing}
use Rattle.geolint_report.specs.Sites.{text_limits}
use Rattle.geolint_report.proofs.every.text_path.text_limits.Goals as goal

pub returns-in-Some : goal.returns-in-Some
returns-in-Some c = c.record_limits.ensures c.in-Some.field-0 ∙ ap (λ (f : Option Framing). text_limits f c.args.limits) (sym c.in-Some.is)

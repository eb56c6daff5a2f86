use Rattle.report_forms.proofs.Common.{Code}
use Rattle.geolint_report.specs.Tallies.{total, count_of}
use Rattle.report_forms.specs.Counts.{tells}
use Rattle.report_forms.specs.Summary.{calls_of, counted}
use Rattle.report_forms.proofs.summary.Summary.put_calls.Goals as goal

pub returns : goal.returns
unfolding calls_of
returns c = λ files tallies counts is.
    c.put_calls.ensures (λ (code : Code). counted (tells code) files) (λ (code : Code). total (count_of code) tallies) counts.codes is.codes

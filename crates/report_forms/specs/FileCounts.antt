-- Which files a summary stands for.
use Rattle.std.specs.Prelude.{◌≡◌, ◌<◌, List, Option, get_or, is_none}
use Rattle.std.specs.Io.Iter.{u64_saturate}
use Rattle.std.specs.List.{count_by}
use Rattle.geolint_report.specs.declared.judge.Finding.{Finding}
use Rattle.geolint_report.specs.declared.texts.Code.{Code}
use Rattle.geolint_report.specs.declared.texts.TheConstants.{CODES}
use Rattle.geolint_report.specs.Slots.{slot_of}
use Rattle.report_forms.specs.declared.summary.Summary.{Summary}
use Rattle.report_forms.specs.Counts.{is_valid, is_warned, is_broken, is_refused, is_not_valid, tells}

-- each count is that of the files in the list, as far as a u64 goes
pub record Counts (summary : Summary) (files : List (Option Finding)) : Type 0 where
  pub valid : summary.valid ≡ u64_saturate (count_by is_valid files)
  pub warned : summary.warned ≡ u64_saturate (count_by is_warned files)
  pub broken : summary.broken ≡ u64_saturate (count_by is_broken files)
  pub refused : summary.refused ≡ u64_saturate (count_by is_refused files)
  pub not_valid : summary.not_valid ≡ u64_saturate (count_by is_not_valid files)
  pub unread : summary.unread ≡ u64_saturate (count_by (λ (file : Option Finding). is_none file) files)
  pub codes : (code : Code) → slot_of code < CODES → get_or summary.counts (slot_of code) 0 ≡ u64_saturate (count_by (tells code) files)

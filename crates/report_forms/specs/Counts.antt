-- What the counts of a summary count: the files of a list that are of a kind, and those of which a code is reported.
use Rattle.std.specs.Prelude.{Bool, false, not, ◌&&◌, ◌||◌, Option, Some, None, is_some, is_none}
use Rattle.gj_coords.specs.Internal.KeptWarnings.{first_in, none_in}
use Rattle.gj_coords.specs.declared.warnings.Warnings.{Warnings}
use Rattle.geolint_report.specs.declared.judge.Finding.{Finding}
use Rattle.geolint_report.specs.declared.report.Told.{Told}
use Rattle.geolint_report.specs.declared.texts.Code.{Code}
use Rattle.geolint_report.specs.Finding.{fault_of, warnings_of}
use Rattle.geolint_report.specs.Slots.{same}
use Rattle.geolint_report.specs.Texts.{is_cause}

-- ---- a file is what it was found to be, or none where it was not read

abbrev pub of_fault : (Code → Bool) → Option Told → Bool
of_fault test (Some told) = test told.code
of_fault test None = false

abbrev pub of_warnings : (Warnings → Bool) → Option Warnings → Bool
of_warnings test (Some warnings) = test warnings
of_warnings test None = false

-- without a warning
abbrev pub is_valid : Option Finding → Bool
is_valid (Some finding) = of_warnings none_in (warnings_of finding)
is_valid None = false

abbrev pub is_warned : Option Finding → Bool
is_warned (Some finding) = of_warnings (λ warnings. not (none_in warnings)) (warnings_of finding)
is_warned None = false

abbrev pub is_broken : Option Finding → Bool
is_broken (Some finding) = of_fault (λ code. not (is_cause code)) (fault_of finding)
is_broken None = false

-- no JSON
abbrev pub is_refused : Option Finding → Bool
is_refused (Some finding) = of_fault is_cause (fault_of finding)
is_refused None = false

-- where nothing more was asked
abbrev pub is_not_valid : Option Finding → Bool
is_not_valid (Some finding) = is_none (fault_of finding) && is_none (warnings_of finding)
is_not_valid None = false

-- ---- a code is reported of a file

abbrev pub warns : Code → Warnings → Bool
warns (Code.Kind kind) warnings = is_some (first_in kind warnings)
warns code warnings = false

-- as its fault, or as a kind of which it has warnings, however many
abbrev pub tells : Code → Option Finding → Bool
tells code (Some finding) = of_fault (same code) (fault_of finding) || of_warnings (warns code) (warnings_of finding)
tells code None = false

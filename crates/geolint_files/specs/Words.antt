-- What the words of the command line ask for, by the text that was given of each.
use Rattle.std.specs.Prelude.{ℕ, List, Option, Some, None, codes, nat_eq, if◌then◌else◌}
use Rattle.std.specs.Cmp.Lexicographic.{pointwise}
use Rattle.gj_coords.specs.declared.kind.Kind.{Kind}
use Rattle.geolint_report.specs.declared.texts.Code.{Code}
use Rattle.report_forms.specs.declared.formats.Format.{Format}
use Rattle.report_forms.specs.declared.options.Every.{Every}
use Rattle.report_forms.specs.Forms.{format_named}

-- the form of the report: lines, where nothing is said
abbrev pub format_by : Option (List ℕ) → Format
format_by None = Format.Lines
format_by (Some word) = format_named word

-- what is reported of each feature
abbrev pub every_by : Option (List ℕ) → Every
every_by None = Every.Nothing
every_by (Some word) = if pointwise nat_eq word (codes "warnings") then Every.Warnings else Every.Faults

-- the kind of warning that a code is
abbrev pub kind_in : Option Code → Option Kind
kind_in (Some (Code.Kind kind)) = Some kind
kind_in found = None

-- Whether a file passes, under `--strict`, `--allow` and `--deny`.
use Rattle.std.specs.Prelude.{Bool, false, not, ◌&&◌, ◌||◌, Option, Some, None, is_some, get_or}
use Rattle.std.specs.List.{list_all}
use Rattle.gj_coords.specs.declared.kind.Kind.{Kind}
use Rattle.gj_coords.specs.declared.warnings.Warnings.{Warnings}
use Rattle.gj_coords.specs.Internal.KeptWarnings.{first_in}
use Rattle.gj_coords.specs.Warnings.{kinds, index_of}
use Rattle.geolint_report.specs.declared.judge.Finding.{Finding}
use Rattle.geolint_report.specs.Finding.{warnings_of}
use Rattle.report_forms.specs.declared.options.Kinds.{Kinds}
use Rattle.report_forms.specs.declared.options.Strictness.{Strictness}

abbrev pub contains : Kinds → Kind → Bool
contains kinds kind = get_or kinds.contained (index_of kind) false

-- a warning of the kind fails a file: it is denied, or under --strict not allowed
abbrev pub fails : Strictness → Kind → Bool
fails strictness kind = contains strictness.denied kind || (strictness.strict && not (contains strictness.allowed kind))

-- the kind fails no file, or there is no warning of it
abbrev pub lets : Strictness → Warnings → Kind → Bool
lets strictness warnings kind = not (fails strictness kind) || not (is_some (first_in kind warnings))

abbrev pub lets_all : Strictness → Warnings → Bool
lets_all strictness warnings = list_all (lets strictness warnings) kinds

-- a valid file passes where each kind of its warnings does
abbrev pub passes_with : Strictness → Option Warnings → Bool
passes_with strictness None = false
passes_with strictness (Some warnings) = lets_all strictness warnings

abbrev pub passes : Strictness → Finding → Bool
passes strictness finding = passes_with strictness (warnings_of finding)

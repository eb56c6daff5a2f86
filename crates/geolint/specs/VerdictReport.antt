-- The bytes of the report of a verdict, as the verdict says it: whatever its `Warnings` is, and without a list of warnings. Where the
-- verdict says a judgement, it is the report of that judgement.
use Rattle.std.specs.Prelude.{ℕ, List, ◌++◌, Option, None, codes}
use Rattle.std.specs.List.{flat_map}
use Rattle.gj_json.specs.declared.path.Path.{Path}
use Rattle.gj_coords.specs.Internal.KeptWarnings.{count_in, first_in}
use Rattle.gj_coords.specs.Warnings.{kinds}
use Rattle.gj_coords.specs.declared.kind.Kind.{Kind}
use Rattle.gj_coords.specs.declared.warnings.Warnings.{Warnings}
use Rattle.gj_rules.specs.declared.sequence.verdict.SeqVerdict.{SeqVerdict}
use Rattle.gj_rules.specs.declared.verdict.Verdict.{Verdict}
use Rattle.gj_rules.specs.declared.verdict.Verdict.TheVariants.{Valid, Broken, NotJson}
use Rattle.geolint.specs.Report.{warning_line, broken_line, refusal_line, path_line_if}
use Rattle.geolint.specs.Sequence.{record_line, count_line}

-- the count of a kind and its least place, as `Warnings::count` and `Warnings::first` give them
abbrev pub told_line : Warnings → Kind → List ℕ
told_line told kind = warning_line kind (count_in kind told) (first_in kind told)

-- in the order of the kinds' numbers
unfoldable pub told_lines : Warnings → List ℕ
told_lines told = flat_map (told_line told) kinds

abbrev pub verdict_report : Verdict → Option Path → List ℕ
verdict_report (Valid told) path = codes "valid\n" ++ told_lines told
verdict_report (Broken fault) path = broken_line fault ++ path_line_if path
verdict_report (NotJson fault) path = refusal_line fault

abbrev pub sequence_verdict_report : SeqVerdict → List ℕ
sequence_verdict_report (SeqVerdict.Valid records told) = codes "valid\n" ++ (count_line records ++ told_lines told)
sequence_verdict_report (SeqVerdict.Record number verdict) = record_line number ++ verdict_report verdict None

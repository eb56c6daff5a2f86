-- The report of a verdict is that of each judgement that the verdict says.
use Rattle.std.proofs.Common.{◌≡◌, ℕ, false, List, [], ◌∷◌, ◌++◌, length, arith, refl, ap, ◌∙◌}
use Rattle.std.specs.Prelude.{min, ◌==◌, if◌then◌else◌, Option, Some, None, unwrap_or, codes}
use Rattle.std.specs.List.{flat_map}
use Rattle.gj_json.specs.declared.path.Path.{Path}
use Rattle.gj_coords.specs.Warnings.{Warning, kinds, places_of, greatest_count, count_of, first_of, least_place}
use Rattle.gj_coords.specs.WarningsStand.{StandsFor}
use Rattle.gj_coords.specs.Internal.KeptWarnings.{noted_as, noted_of, kept, warnings_of}
use Rattle.gj_coords.specs.Internal.KeptWarningLaws.{some_least}
use Rattle.gj_coords.specs.Internal.WarningLaws.{kept_by_kind}
use Rattle.gj_coords.specs.declared.kind.Kind.{Kind}
use Rattle.gj_coords.specs.declared.kind_warnings.KindWarnings.{KindWarnings}
use Rattle.gj_coords.specs.declared.warnings.Warnings.{Warnings}
use Rattle.gj_rules.specs.Sequence.{SequenceJudgement, all_valid, failing, SequenceSays}
use Rattle.gj_rules.specs.Verdict.{Judgement, valid, broken, refused, Says}
use Rattle.gj_rules.specs.declared.sequence.verdict.SeqVerdict.{SeqVerdict}
use Rattle.gj_rules.specs.declared.verdict.Verdict.{Verdict}
use Rattle.gj_rules.specs.declared.verdict.Verdict.TheVariants.{Valid, Broken, NotJson}
use Rattle.geolint.specs.Report.{warning_line, warning_lines, broken_line, refusal_line, path_line_if, report}
use Rattle.geolint.specs.Sequence.{record_line, count_line, sequence_report}
use Rattle.geolint.specs.VerdictReport.{told_line, told_lines, verdict_report, sequence_verdict_report}
use Rattle.gj_coords.proofs.Lists.ShiftedWarnings.{some_count}

-- ---- the line of a kind

kept_is : (told : Warnings) (all : List Warning) (kind : Kind) → StandsFor told all → kept told kind ≡ noted_of kind all
unfolding warnings_of
kept_is told all kind stands = ap (λ (w : Warnings). kept w kind) stands ∙ kept_by_kind (λ k. noted_of k all) kind

abbrev line_of : KindWarnings → Kind → List ℕ
line_of noted kind = warning_line kind noted.count (if noted.count == 0 then None else Some noted.first)

some_line : (kind : Kind) (count place : ℕ) (least : Option ℕ) → (count == 0) ≡ false → least ≡ Some place
    → line_of (noted_as count (unwrap_or least 0)) kind ≡ warning_line kind count least
some_line kind count place least some found = rw (some, found) refl

line_of_places : (kind : Kind) (places : List ℕ)
    → line_of (noted_as (min (length places) greatest_count) (unwrap_or (least_place places) 0)) kind
    ≡ warning_line kind (min (length places) greatest_count) (least_place places)
line_of_places kind [] = refl
line_of_places kind (x ∷ xs) =
    let found : (place : ℕ) × (least_place (x ∷ xs) ≡ Some place) = some_least x xs in
    some_line kind (min (length (x ∷ xs)) greatest_count) found.0 (least_place (x ∷ xs)) (some_count greatest_count (length xs) (omega arith)) found.1

told_is : (told : Warnings) (all : List Warning) (kind : Kind) → StandsFor told all
    → told_line told kind ≡ warning_line kind (count_of kind all) (first_of kind all)
told_is told all kind stands = ap (λ (noted : KindWarnings). line_of noted kind) (kept_is told all kind stands) ∙ line_of_places kind (places_of kind all)

lines_are : (told : Warnings) (all : List Warning) → StandsFor told all → told_lines told ≡ warning_lines all
unfolding told_lines warning_lines
lines_are told all stands = λ i. flat_map (λ (kind : Kind). told_is told all kind stands i) kinds

-- ---- the report

pub verdict_said : (verdict : Verdict) (judgement : Judgement) (path : Option Path) → Says verdict judgement
    → verdict_report verdict path ≡ report judgement path
verdict_said (Valid told) (valid all) path h = ap (λ (lines : List ℕ). codes "valid\n" ++ lines) (lines_are told all h)
verdict_said (Valid told) (broken fault) path h = elim h [ ]
verdict_said (Valid told) (refused fault) path h = elim h [ ]
verdict_said (Broken told) (valid all) path h = elim h [ ]
verdict_said (Broken told) (broken fault) path h = ap (λ f. broken_line f ++ path_line_if path) h
verdict_said (Broken told) (refused fault) path h = elim h [ ]
verdict_said (NotJson told) (valid all) path h = elim h [ ]
verdict_said (NotJson told) (broken fault) path h = elim h [ ]
verdict_said (NotJson told) (refused fault) path h = ap refusal_line h

pub sequence_said : (verdict : SeqVerdict) (judgement : SequenceJudgement) → SequenceSays verdict judgement
    → sequence_verdict_report verdict ≡ sequence_report judgement
sequence_said (SeqVerdict.Valid count told) (all_valid records all) h =
    ap (λ (n : ℕ). codes "valid\n" ++ (count_line n ++ told_lines told)) h.0
    ∙ ap (λ (lines : List ℕ). codes "valid\n" ++ (count_line records ++ lines)) (lines_are told all h.1)
sequence_said (SeqVerdict.Valid count told) (failing number judgement) h = elim h [ ]
sequence_said (SeqVerdict.Record number verdict) (all_valid records all) h = elim h [ ]
sequence_said (SeqVerdict.Record told verdict) (failing number judgement) h =
    ap (λ (n : ℕ). record_line n ++ verdict_report verdict None) h.0
    ∙ ap (λ (bytes : List ℕ). record_line number ++ bytes) (verdict_said verdict judgement None h.1)

-- What is found in the features of a part of a text.
use Rattle.std.specs.Prelude.{◌≡◌, ℕ, ◌<◌, ◌≤◌, nat_lt, if◌then◌else◌, List, length, Option, Some, None}
use Rattle.gj_json.specs.Limits.{Allowed}
use Rattle.gj_rules.specs.declared.sequence.verdict.SeqVerdict.{SeqVerdict}
use Rattle.gj_join.specs.Runs.{IsSumOf}
use Rattle.gj_join.specs.declared.sum.FeatureSum.{FeatureSum}
use Rattle.file_parts.specs.Cuts.{bytes_between}
use Rattle.file_parts.specs.declared.checked.CheckedPart.{CheckedPart}

-- where there are bytes between these two places of the text, they are a run of features with this sum
pub record IsSumIn (levels : ℕ) (text : List ℕ) (sum : FeatureSum) : Type 0 where
  pub within : sum.begin < sum.end → sum.end ≤ length text
  pub is_sum : sum.begin < sum.end → IsSumOf levels (bytes_between sum.begin sum.end text) sum

-- a sum as what is found of a part, in which features stand for records
abbrev pub part_of : FeatureSum → CheckedPart
part_of sum = record { begin = sum.begin; end = sum.end; verdict = SeqVerdict.Valid sum.features sum.warnings }

abbrev pub sum_by : (begin end : ℕ) → SeqVerdict → Option FeatureSum
sum_by begin end (SeqVerdict.Valid features warnings) =
    if nat_lt begin end then Some (record { begin = begin; end = end; features = features; warnings = warnings }) else None
sum_by begin end (SeqVerdict.Record number verdict) = None

-- the sum of a part that has bytes
abbrev pub sum_of : CheckedPart → Option FeatureSum
sum_of part = sum_by part.begin part.end part.verdict

-- what is found of the part is true of the text
abbrev pub IsTruePart : Allowed → List ℕ → CheckedPart → Type 0
IsTruePart limits text part = (sum : FeatureSum) → sum_of part ≡ Some sum → IsSumIn limits.depth text sum

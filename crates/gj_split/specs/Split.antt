-- How the features of a text are split: the bytes of each by themselves, those without a fault as one text sequence
-- (RFC 8142), and the others as a second.
use Rattle.std.specs.Prelude.{ℕ, ◌-◌, ◌≤◌, List, [], ◌∷◌, ◌++◌, length, Option, Some, None, take, drop, map}
use Rattle.std.specs.List.{flat_map}
use Rattle.gj_json.specs.Bytes.{line_feed}
use Rattle.gj_json.specs.Text.{IsTextWithin}
use Rattle.gj_json.specs.Tree.{Text}
use Rattle.gj_coords.specs.declared.fault.Fault.{Fault}
use Rattle.gj_rules.specs.FeatureFindings.{FeatureFinding, feature_findings}
use Rattle.gj_coords.specs.declared.warnings.Warnings.{Warnings}
use Rattle.gj_rules.specs.declared.sequence.verdict.SeqVerdict.{SeqVerdict}
use Rattle.gj_rules.specs.Sequence.{separator, IsSequenceVerdict}
use Rattle.gj_rules.specs.Verdict.{IsValidWith}

-- ---- the bytes of a feature

-- the bytes of a text from one place up to another
abbrev pub bytes_between : ℕ → ℕ → List ℕ → List ℕ
bytes_between place end bytes = take (end - place) (drop place bytes)

-- from the feature's first byte to its last
abbrev pub feature_bytes : List ℕ → FeatureFinding → List ℕ
feature_bytes bytes finding = bytes_between finding.place finding.end bytes

-- ---- the two parts

-- Each feature is in one of them, in the order of the text: in the first where it has no fault as a feature. Such a feature is a
-- valid text by itself, whatever the text around it is. A value that has a fault as a feature may be a valid text: a geometry
-- among the features is one.
pub record Split : Type 0 where
  pub valid : List (List ℕ)
  pub broken : List (List ℕ)

-- one feature more, before the others
abbrev pub with_feature : Option Fault → List ℕ → Split → Split
with_feature None own rest = record { valid = own ∷ rest.valid; broken = rest.broken }
with_feature (Some fault) own rest = record { valid = rest.valid; broken = own ∷ rest.broken }

abbrev pub split_findings : List ℕ → List FeatureFinding → Split
split_findings bytes [] = record { valid = []; broken = [] }
split_findings bytes (finding ∷ more) = with_feature finding.fault (feature_bytes bytes finding) (split_findings bytes more)

-- the features of a text with these bytes
abbrev pub split_of : List ℕ → Text → Split
split_of bytes text = split_findings bytes (feature_findings text)

-- ---- as they are written

-- a record of a text sequence: RS, the text, LF
abbrev pub record_of : List ℕ → List ℕ
record_of own = separator ∷ (own ++ line_feed ∷ [])

abbrev pub sequence_of : List (List ℕ) → List ℕ
sequence_of texts = flat_map record_of texts

-- ---- both together

-- the first and the second, each in its order, are the whole list
pub data IsMerged : List (List ℕ) → List (List ℕ) → List (List ℕ) → Type 0 where
  none_left : IsMerged [] [] []
  from_first : (own : List ℕ) {first second all : List (List ℕ)} → IsMerged first second all → IsMerged (own ∷ first) second (own ∷ all)
  from_second : (own : List ℕ) {first second all : List (List ℕ)} → IsMerged first second all → IsMerged first (own ∷ second) (own ∷ all)

-- the bytes of all features of a text, in its order
abbrev pub all_features : List ℕ → Text → List (List ℕ)
all_features bytes text = map (feature_bytes bytes) (feature_findings text)

-- ---- what they are by themselves

-- the bytes are a JSON text that nests no deeper
abbrev pub IsJson : ℕ → List ℕ → Type 0
IsJson levels own = (text : Text) × IsTextWithin levels text own

-- and one without a fault
abbrev pub IsValidAlone : ℕ → List ℕ → Type 0
IsValidAlone levels own = IsValidWith (record { depth = levels; bytes = length own }) own (λ warnings. Unit {0})

-- the bytes are a valid sequence of so many records, under each limit on its bytes that they keep
abbrev pub IsValidSequence : ℕ → ℕ → List ℕ → Type 0
IsValidSequence levels count bytes =
    (most : ℕ) → length bytes ≤ most → (warnings : Warnings)
    × IsSequenceVerdict (record { depth = levels; bytes = most }) bytes (SeqVerdict.Valid count warnings)

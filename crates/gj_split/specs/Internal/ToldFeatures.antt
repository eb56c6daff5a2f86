-- What is written of features that were reported, by their places in the bytes of the text.
use Rattle.std.specs.Prelude.{◌≡◌, ℕ, ◌+◌, Bool, true, not, ◌||◌, ◌==◌, List, [], ◌∷◌, Option, Some, None, drop}
use Rattle.gj_json.specs.Bytes.{open_bracket, open_brace}
use Rattle.gj_rules.specs.declared.feature.Feature.{Feature}
use Rattle.gj_split.specs.Internal.ScannedValues.{scan_length}
use Rattle.gj_split.specs.Split.{bytes_between, Split, with_feature}
use Rattle.gj_split.specs.declared.scan.Scan.{Scan}

-- the place after the last byte, given that of the closing bracket where there is one
abbrev pub end_told : ℕ → Option ℕ → List ℕ → ℕ
end_told place (Some close) bytes = close + 1
end_told place None bytes = place + scan_length Scan.Start (drop place bytes)

abbrev pub told_end : List ℕ → Feature → ℕ
told_end bytes feature = end_told feature.place feature.close bytes

abbrev pub told_bytes : List ℕ → Feature → List ℕ
told_bytes bytes feature = bytes_between feature.place (told_end bytes feature) bytes

-- each feature that was reported belongs to one part
abbrev pub told_split : List ℕ → List Feature → Split
told_split bytes [] = record { valid = []; broken = [] }
told_split bytes (feature ∷ more) = with_feature feature.fault (told_bytes bytes feature) (told_split bytes more)

-- ---- whether the end is known

-- no array and no object begins these bytes
abbrev pub is_flat : List ℕ → Bool
is_flat [] = true
is_flat (b ∷ more) = not (b == open_bracket || b == open_brace)

abbrev pub IsEndKnown : ℕ → Option ℕ → List ℕ → Type 0
IsEndKnown place (Some close) bytes = Unit {0}
IsEndKnown place None bytes = is_flat (drop place bytes) ≡ true

-- only of a value that is no array and no object the closing bracket may be left out
abbrev pub EndsKnown : List ℕ → Feature → Type 0
EndsKnown bytes feature = IsEndKnown feature.place feature.close bytes

-- Where a part may begin: after a seam that was not tried in vain.
use Rattle.std.specs.Prelude.{◌≡◌, ◌⊎◌, ℕ, ◌+◌, ◌-◌, ◌<◌, ◌^◌, true, List, [], ◌∷◌, take, drop, Option, Some, None, unwrap_or}
use Rattle.gj_json.specs.Limits.{Allowed}
use Rattle.gj_rules.specs.declared.linter.Progress.TheVariants.{Open}
use Rattle.gj_join.specs.Runs.{IsLongestSum, MayBegin}
use Rattle.gj_join.specs.Seams.{is_seam}
use Rattle.gj_join.specs.declared.sum.FeatureSum.{FeatureSum}
use Rattle.file_parts.specs.Cuts.{bytes_between}
use Rattle.file_parts.specs.Ranges.{range_begin}
use Rattle.file_parts.specs.declared.checked.CheckedPart.{CheckedPart}
use Rattle.file_parts.specs.declared.ranges.Share.{Share}
use Rattle.file_parts.specs.ReadRuns.{ReadsRun}
use Rattle.file_parts.specs.Sums.{part_of}
use Rattle.file_parts.specs.declared.collections.runs.ReadRun.{ReadRun}

-- a brace closes right before the place, and within so many bytes from it on a comma and the beginning of an object follow
pub record IsSeam (text : List ℕ) (count place : ℕ) : Type 0 where
  pub some : 0 < place
  pub seam : is_seam (take count (drop (place - 1) text)) ≡ true

-- a trial: a feature of 1 MiB at the most, and what follows in 64 KiB
abbrev pub IsTrial : Allowed → List ℕ → ℕ → ReadRun → Type 0
IsTrial limits text place run = ReadsRun limits text place (place + 2 ^ 20) (2 ^ 16) run

-- features are there, and what follows is not refused
abbrev pub IsGood : ReadRun → Type 0
IsGood run = (0 < run.sum.features) × (run.progress ≡ Open)

pub record IsVain (limits : Allowed) (text : List ℕ) (place : ℕ) (run : ReadRun) : Type 0 where
  pub trial : IsTrial limits text place run
  pub bad : IsGood run → ⊥

-- each seam of 256 bytes at the most after `from` and before `until`, where a run may begin, was tried in vain
abbrev pub AllVain : Allowed → List ℕ → (from until : ℕ) → Type 0
AllVain limits text from until =
    (place : ℕ) → from < place → place < until → IsSeam text 256 place → MayBegin limits place → (run : ReadRun) × IsVain limits text place run

-- these seams were, from the last one to the first
abbrev pub AreVain : Allowed → List ℕ → (from until : ℕ) → List (ℕ × ReadRun) → Type 0
AreVain limits text from until [] = Unit {0}
AreVain limits text from until ((place, run) ∷ more) =
    (from < place) × (place < until) × ((count : ℕ) × IsSeam text count place) × IsVain limits text place run × AreVain limits text from place more

-- how many bytes were read to try them
abbrev pub bytes_tried : List (ℕ × ReadRun) → ℕ
bytes_tried [] = 0
bytes_tried ((place, run) ∷ more) = (run.reached - place) + bytes_tried more

-- the first seam that was not tried in vain; none where there is none, or where more than 16 MiB were read in vain
abbrev pub IsLikely : Allowed → List ℕ → (from until : ℕ) → Option ℕ → Type 0
IsLikely limits text from until (Some place) =
    (from < place) × (place < until) × ((count : ℕ) × IsSeam text count place) × ((run : ReadRun) × IsTrial limits text place run × IsGood run)
    × AllVain limits text from place
IsLikely limits text from until None =
    AllVain limits text from until ⊎ ((tried : List (ℕ × ReadRun)) × AreVain limits text from until tried × (2 ^ 24 < bytes_tried tried))

-- the longest run from that place on, up to the first likely place from `until` on or the end; with no place the part has no byte
abbrev pub HasRunFrom : Allowed → List ℕ → (until size : ℕ) → Option ℕ → CheckedPart → Type 0
HasRunFrom limits text until size (Some begin) part = (end : Option ℕ) × IsLikely limits text until size end
    × ((sum : FeatureSum) × IsLongestSum limits begin (bytes_between begin (unwrap_or end size) text) sum × (part ≡ part_of sum))
HasRunFrom limits text until size None part = part.begin ≡ part.end

-- the features of this part of a text of so many bytes
abbrev pub HasRun : Allowed → List ℕ → Share → (size : ℕ) → CheckedPart → Type 0
HasRun limits text share size part =
    let until = range_begin size share.parts share.number in
    (begin : Option ℕ) × IsLikely limits text (range_begin size share.parts (share.number - 1)) until begin × HasRunFrom limits text until size begin part

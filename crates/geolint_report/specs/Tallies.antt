-- How many features or records there are, how many are broken, and of how many each rule, kind of warning and cause is reported.
use Rattle.std.specs.Prelude.{◌≡◌, ◌<◌, ℕ, Bool, true, false, List, get_or, sum_by}
use Rattle.std.specs.Io.Iter.{u64_saturate}
use Rattle.std.specs.List.{count_by}
use Rattle.geolint_report.specs.declared.every.listing.Note.{Note}
use Rattle.geolint_report.specs.declared.every.tally.Tally.{Tally}
use Rattle.geolint_report.specs.declared.texts.Code.{Code}
use Rattle.geolint_report.specs.declared.texts.TheConstants.{CODES}
use Rattle.geolint_report.specs.Slots.{same, slot_of}

-- ---- of the notes of one file

-- it is about one that is broken, and not a warning of one that is valid
abbrev pub is_fault : Code → Bool
is_fault (Code.Kind kind) = false
is_fault code = true

abbrev pub of_broken : Note → Bool
of_broken note = is_fault note.told.code

abbrev pub notes_code : Code → Note → Bool
notes_code code note = same code note.told.code

abbrev pub count_of : Code → Tally → ℕ
count_of code tally = get_or tally.counts (slot_of code) 0

-- each count is that of these notes, as far as a u64 goes: a feature or a record has one fault at most, and one note of a kind
pub record Tallies (tally : Tally) (notes : List Note) : Type 0 where
  pub broken : tally.broken ≡ u64_saturate (count_by of_broken notes)
  pub codes : (code : Code) → slot_of code < CODES → count_of code tally ≡ u64_saturate (count_by (notes_code code) notes)

-- ---- of files together

abbrev pub total : (Tally → ℕ) → List Tally → ℕ
total count tallies = u64_saturate (sum_by count tallies)

pub record IsTotal (tally : Tally) (tallies : List Tally) : Type 0 where
  pub items : tally.items ≡ total (λ (one : Tally). one.items) tallies
  pub broken : tally.broken ≡ total (λ (one : Tally). one.broken) tallies
  pub codes : (code : Code) → slot_of code < CODES → count_of code tally ≡ total (count_of code) tallies

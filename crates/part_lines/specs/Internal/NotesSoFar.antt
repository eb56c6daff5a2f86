-- The notes on the records of the first bytes of a text, as they are joined from those of its parts.
use Rattle.std.specs.Prelude.{◌≡◌, ℕ, zero, suc, ◌-◌, ◌≤◌, ◌<◌, List, [], ◌∷◌, length, take}
use Rattle.gj_json.specs.Limits.{Allowed}
use Rattle.gj_join.specs.Joined.{records_among}
use Rattle.gj_rules.specs.RecordFindings.{AreAllFindings}
use Rattle.gj_rules.specs.declared.records.framing.Framing.{Framing}
use Rattle.gj_rules.specs.declared.records.record.Record.{Record}
use Rattle.geolint_report.specs.Every.{notes_of_records, AreNotesAll}
use Rattle.geolint_report.specs.Items.{item_number}
use Rattle.geolint_report.specs.Tallies.{IsTotal}
use Rattle.geolint_report.specs.declared.every.listing.Asked.{Asked}
use Rattle.geolint_report.specs.declared.every.listing.Note.{Note}
use Rattle.geolint_report.specs.declared.every.tally.Tally.{Tally}
use Rattle.part_lines.specs.declared.notes.SoFar.{SoFar}

-- at least as many notes, of the same kind, from the first on
pub record ListsWhatIsAsked (listed asked : Asked) : Type 0 where
  pub kind : listed.with_warnings ≡ asked.with_warnings
  pub skipped : listed.skipped ≡ 0
  pub room : asked.room ≤ listed.room

-- how many records there are, given how many findings, and which number the first note has: with 0 it is on no record
abbrev pub numbered_among : ℕ → ℕ → ℕ
numbered_among items zero = items - 1
numbered_among items (suc n) = items

abbrev pub records_noted : ℕ → List Note → ℕ
records_noted items [] = items
records_noted items (note ∷ more) = numbered_among items (item_number note.item)

-- The notes that are asked for on the records of the bytes up to a place. How many records these are is known where a note is asked for.
pub record AreNotesTo (framing : Framing) (limits : Allowed) (asked : Asked) (text : List ℕ) (so_far : SoFar) : Type 0 where
  pub within : so_far.end ≤ length text
  pub found : List Record
  pub are_found : AreAllFindings framing limits (take so_far.end text) found
  pub are_notes : AreNotesAll asked so_far.notes.notes.items so_far.notes.count so_far.notes.tally (notes_of_records asked.with_warnings found) (length found)
  pub counted : 0 < asked.room → so_far.records ≡ records_among found
  pub tallies : List Tally
  pub total : IsTotal so_far.notes.tally tallies

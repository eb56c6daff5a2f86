-- What is reported of the records of a whole, given what is reported of those of its parts.
use Rattle.std.specs.Prelude.{ℕ, ◌+◌, List, ◌++◌, map}
use Rattle.geolint_report.specs.Every.{note_of}
use Rattle.geolint_report.specs.declared.every.listing.Item.{Item}
use Rattle.geolint_report.specs.declared.every.listing.Note.{Note}

-- After so many records. A feature is counted in its own text.
abbrev pub moved_item : (count : ℕ) → Item → Item
moved_item count (Item.Feature index id) = Item.Feature index id
moved_item count (Item.Record number) = Item.Record (number + count)

-- after so many records, and so many bytes further on
abbrev pub moved_note : (count by : ℕ) → Note → Note
moved_note count by note = note_of (moved_item count note.item) (record { code = note.told.code; place = note.told.place + by })

-- those of a part that has so many records and ends at that place, then those of the next part
abbrev pub joined_notes : (count end : ℕ) → List Note → List Note → List Note
joined_notes count end notes more = notes ++ map (moved_note count end) more

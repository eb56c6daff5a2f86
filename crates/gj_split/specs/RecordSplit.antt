-- How the records of an input are split, of a text sequence (RFC 8142) or of newline-delimited texts: those that are valid
-- become one text sequence, and the others a second.
use Rattle.std.specs.Prelude.{ℕ, ◌-◌, List, [], ◌∷◌, length, take, if◌then◌else◌, map}
use Rattle.gj_json.specs.Limits.{Allowed}
use Rattle.gj_rules.specs.declared.records.framing.Framing.{Framing}
use Rattle.gj_rules.specs.declared.records.record.Record.{Record}
use Rattle.gj_rules.specs.declared.verdict.Verdict.{Verdict}
use Rattle.gj_rules.specs.declared.verdict.Verdict.TheVariants.{Valid, Broken, NotJson}
use Rattle.gj_rules.specs.Records.{Entry, entries_of}
use Rattle.gj_rules.specs.Sequence.{ends_in_line_feed}
use Rattle.gj_split.specs.Split.{bytes_between, Split}

-- ---- the text of a record

-- its bytes as they are, up to the LF that ends them
abbrev pub text_in : List ℕ → List ℕ
text_in bytes = if ends_in_line_feed bytes then take (length bytes - 1) bytes else bytes

-- the text of a record that was found in the input, by its place and its end
abbrev pub found_text : List ℕ → Record → List ℕ
found_text bytes found = text_in (bytes_between found.place found.end bytes)

-- ---- the two parts

-- one record more, before the others: it belongs to the first part where it is valid
abbrev pub with_record : Verdict → List ℕ → Split → Split
with_record (Valid warnings) own rest = record { valid = own ∷ rest.valid; broken = rest.broken }
with_record (Broken fault) own rest = record { valid = rest.valid; broken = own ∷ rest.broken }
with_record (NotJson fault) own rest = record { valid = rest.valid; broken = own ∷ rest.broken }

-- the records of an input with these bytes, in which this was found
abbrev pub split_records : List ℕ → List Record → Split
split_records bytes [] = record { valid = []; broken = [] }
split_records bytes (found ∷ more) = with_record found.verdict (found_text bytes found) (split_records bytes more)

-- ---- both together

abbrev pub entry_text : Entry → List ℕ
entry_text entry = text_in entry.part.bytes

-- the texts of all records of an input, in its order; of a sequence the bytes before its first separator too, where there are some
abbrev pub all_records : Framing → Allowed → List ℕ → List (List ℕ)
all_records framing limits bytes = map entry_text (entries_of framing limits bytes)

-- How an input is cut into the records that are checked each by itself: a text sequence (RFC 8142; RFC 7464, section 2), or
-- newline-delimited texts, each of which is a line.
use Rattle.std.specs.Prelude.{ℕ, zero, suc, ◌+◌, List, [], ◌∷◌, length, take, Bool, true, false, ◌||◌, not, nat_eq, nat_lt, if◌then◌else◌}
use Rattle.std.specs.List.{list_all}
use Rattle.gj_json.specs.Bytes.{tab, line_feed, carriage_return, space}
use Rattle.gj_json.specs.Limits.{Allowed}
use Rattle.gj_rules.specs.declared.records.framing.Framing.{Framing}
use Rattle.gj_rules.specs.declared.records.framing.Framing.TheVariants.{Sequence, Lines}
use Rattle.gj_rules.specs.declared.records.framing.RecordEnd.{RecordEnd}
use Rattle.gj_rules.specs.declared.records.framing.RecordEnd.TheVariants.{Separator, Input, Limit}
use Rattle.gj_rules.specs.Sequence.{separator}

-- ---- parts

-- A part of an input: the place of its first byte, its bytes, and what ends it.
pub record Part : Type 0 where
  pub start : ℕ
  pub bytes : List ℕ
  pub end : RecordEnd

-- the byte between two parts
abbrev pub separator_of : Framing → ℕ
separator_of Sequence = separator
separator_of Lines = line_feed

abbrev pub part_at : ℕ → List ℕ → RecordEnd → Part
part_at start bytes end = record { start = start; bytes = bytes; end = end }

-- the parts, with one byte more before the first of them
abbrev pub with_first : ℕ → ℕ → List Part → List Part
with_first place byte [] = []
with_first place byte (part ∷ more) = part_at place (byte ∷ part.bytes) part.end ∷ more

-- the parts of bytes of which the first has this place: one more than there are separators among them
abbrev pub parts_from : Framing → RecordEnd → ℕ → List ℕ → List Part
parts_from framing last place [] = part_at place [] last ∷ []
parts_from framing last place (byte ∷ more) =
    if nat_eq byte (separator_of framing)
    then part_at place [] Separator ∷ parts_from framing last (place + 1) more
    else with_first place byte (parts_from framing last (place + 1) more)

abbrev pub is_too_long : Allowed → List ℕ → Bool
is_too_long limits bytes = nat_lt limits.bytes (length bytes)

-- the parts of an input, as far as its length is allowed
abbrev pub parts_of : Framing → Allowed → List ℕ → List Part
parts_of framing limits bytes =
    if is_too_long limits bytes then parts_from framing Limit 0 (take limits.bytes bytes) else parts_from framing Input 0 bytes

-- ---- records

-- white space within a line (RFC 8259, section 2)
abbrev pub is_blank : ℕ → Bool
is_blank byte = (nat_eq byte space || nat_eq byte tab) || nat_eq byte carriage_return

abbrev pub are_blank : List ℕ → Bool
are_blank bytes = list_all is_blank bytes

abbrev pub are_none : List ℕ → Bool
are_none [] = true
are_none (byte ∷ more) = false

-- whether such bytes before a separator are passed over: none at all in a sequence, and white space in a line
abbrev pub is_void : Framing → List ℕ → Bool
is_void Sequence bytes = are_none bytes
is_void Lines bytes = are_blank bytes

-- The number of the first part. No record of a sequence stands before its first separator: what stands there has the number 0.
abbrev pub first_number : Framing → ℕ
first_number Sequence = 0
first_number Lines = 1

-- Whether a part counts, given the number that it has then and whether it is void. A separator begins a record of a sequence,
-- even if the input ends there, and what the limit cuts off may have gone on.
abbrev pub counts : Framing → ℕ → RecordEnd → Bool → Bool
counts framing number Separator is_void = not is_void
counts framing number Limit is_void = true
counts Lines number Input is_void = not is_void
counts Sequence zero Input is_void = not is_void
counts Sequence (suc n) Input is_void = true

-- records are counted from 1
abbrev pub at_least_one : ℕ → ℕ
at_least_one zero = 1
at_least_one (suc n) = suc n

abbrev pub number_after : Bool → ℕ → ℕ
number_after true number = number + 1
number_after false number = at_least_one number

pub record Entry : Type 0 where
  pub number : ℕ
  pub part : Part

abbrev pub entry_at : ℕ → Part → Entry
entry_at number part = record { number = number; part = part }

abbrev pub entry_if : Bool → Entry → List Entry → List Entry
entry_if true entry more = entry ∷ more
entry_if false entry more = more

-- whether a part with the number counts
abbrev pub is_counted : Framing → ℕ → Part → Bool
is_counted framing number part = counts framing number part.end (is_void framing part.bytes)

-- the parts that count, each with its number
abbrev pub entries_from : Framing → ℕ → List Part → List Entry
entries_from framing number [] = []
entries_from framing number (part ∷ more) =
    entry_if (is_counted framing number part) (entry_at number part) (entries_from framing (number_after (is_counted framing number part) number) more)

-- the number of the next part
abbrev pub number_from : Framing → ℕ → List Part → ℕ
number_from framing number [] = number
number_from framing number (part ∷ more) = number_from framing (number_after (is_counted framing number part) number) more

abbrev pub entries_in : Framing → List Part → List Entry
entries_in framing parts = entries_from framing (first_number framing) parts

-- the records of an input; of a sequence the bytes before its first separator too, where there are some
abbrev pub entries_of : Framing → Allowed → List ℕ → List Entry
entries_of framing limits bytes = entries_in framing (parts_of framing limits bytes)

-- The ranges of bytes of N parts, and which bytes each part has.
use Rattle.std.specs.Prelude.{◌≡◌, ℕ, zero, suc, ◌+◌, ◌-◌, ◌*◌, ◌/◌, ◌%◌, ◌<◌, ◌≤◌, min, List, [], ◌++◌, length, Option, Some, None}
use Rattle.gj_json.specs.Limits.{Allowed}
use Rattle.gj_rules.specs.declared.records.framing.Framing.{Framing}
use Rattle.file_parts.specs.Cuts.{IsFirstCut, bytes_between}

-- where the range after so many others begins: each has as many bytes as the next, or one more
abbrev pub range_begin : (size parts before : ℕ) → ℕ
range_begin size parts before = before * (size / parts) + min before (size % parts)

-- the end of a part that has bytes: the first cut from the end of its range on, or the end of the text
abbrev pub IsEndFrom : Option ℕ → (size end : ℕ) → Type 0
IsEndFrom (Some cut) size end = end ≡ cut
IsEndFrom None size end = end ≡ size

abbrev pub IsEnd : Framing → Allowed → List ℕ → (until end : ℕ) → Type 0
IsEnd framing limits text until end = (cut : Option ℕ) × IsFirstCut framing limits text until (length text) cut × IsEndFrom cut (length text) end

-- the part begins at the first cut in its range, if there is one; with none it has no byte
abbrev pub IsFromCut : Framing → Allowed → List ℕ → (until : ℕ) → Option ℕ → (begin end : ℕ) → Type 0
IsFromCut framing limits text until (Some cut) begin end = (begin ≡ cut) × IsEnd framing limits text until end
IsFromCut framing limits text until None begin end = (begin ≡ until) × (end ≡ until)

-- The bytes of a part, by its range: all records that begin in it. The first part begins with the text, whatever its first byte is.
abbrev pub IsByRange : Framing → Allowed → List ℕ → (from until begin end : ℕ) → Type 0
IsByRange framing limits text zero until begin end = (begin ≡ 0) × IsEnd framing limits text until end
IsByRange framing limits text (suc n) until begin end =
    (cut : Option ℕ) × IsFirstCut framing limits text (suc n) until cut × IsFromCut framing limits text until cut begin end

-- the bytes of the part of this number, counted from 1, of so many
abbrev pub ArePart : Framing → Allowed → List ℕ → (number parts begin end : ℕ) → Type 0
ArePart framing limits text number parts begin end =
    IsByRange framing limits text (range_begin (length text) parts (number - 1)) (range_begin (length text) parts number) begin end

-- ---- all parts

-- the parts of these numbers begin and end at these places
abbrev pub AreParts : Framing → Allowed → List ℕ → (parts : ℕ) → (begin end : ℕ → ℕ) → Type 0
AreParts framing limits text parts begin end =
    (number : ℕ) → 0 < number → number ≤ parts → ArePart framing limits text number parts (begin number) (end number)

-- the bytes of the first so many parts, one after the other
abbrev pub bytes_of_parts : (begin end : ℕ → ℕ) → List ℕ → ℕ → List ℕ
bytes_of_parts begin end text zero = []
bytes_of_parts begin end text (suc n) = bytes_of_parts begin end text n ++ bytes_between (begin (suc n)) (end (suc n)) text

-- How far the first so many parts go: to the first cut from the end of their ranges on, or to the end of the text.
use Rattle.std.specs.Prelude.{◌≡◌, ℕ, zero, suc, List, length}
use Rattle.gj_json.specs.Limits.{Allowed}
use Rattle.gj_rules.specs.declared.records.framing.Framing.{Framing}
use Rattle.file_parts.specs.Ranges.{range_begin, IsEnd}

abbrev pub GoTo : Framing → Allowed → List ℕ → (parts count place : ℕ) → Type 0
GoTo framing limits text parts zero place = place ≡ 0
GoTo framing limits text parts (suc n) place = IsEnd framing limits text (range_begin (length text) parts (suc n)) place

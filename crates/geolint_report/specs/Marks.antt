-- Where the place of a note stands.
use Rattle.std.specs.Prelude.{◌≡◌, ℕ, List, Option, Some, None}
use Rattle.gj_rules.specs.declared.records.framing.Framing.{Framing}
use Rattle.geolint_report.specs.declared.every.cursor.Mark.{Mark}
use Rattle.geolint_report.specs.Sites.{IsSpot, LeadsTo}

-- the line, the column and the path are those of the place in these bytes
abbrev pub IsMark : Option Framing → List ℕ → ℕ → Mark → Type 0
IsMark framing text place mark = (mark.place ≡ place) × IsSpot text place mark.spot × LeadsTo framing text place mark.path

abbrev pub IsMarkBy : Option Framing → Option (List ℕ) → ℕ → Mark → Type 0
IsMarkBy framing None place mark = mark.place ≡ place
IsMarkBy framing (Some text) place mark = IsMark framing text place mark

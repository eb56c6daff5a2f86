-- What a cursor has reached.
use Rattle.std.specs.Prelude.{◌≡◌, ◌≤◌, ℕ, List, length, take, Option, Some, None, IfSome, ⊤}
use Rattle.gj_places.specs.Counting.{StandsFor}
use Rattle.gj_rules.specs.declared.records.framing.Framing.{Framing}
use Rattle.geolint_report.specs.declared.every.cursor.Cursor.{Cursor}
use Rattle.geolint_report.specs.declared.every.cursor.Cursors.{Cursors}
use Rattle.geolint_report.specs.Internal.TextPaths.{StandsIn as Follows}
use Rattle.geolint_report.specs.Marks.{IsMark}

-- it counted these bytes, and has followed the path in the text that they end in
pub record Passed (cursor : Cursor) (bytes : List ℕ) : Type 0 where
  pub lines : StandsFor cursor.lines bytes
  pub follows : Follows cursor.text_path bytes

-- it stands in a file, and the place that it kept is right
pub record StandsIn (text : List ℕ) (cursor : Cursor) : Type 0 where
  pub within : cursor.passed ≤ length text
  pub passed : Passed cursor (take cursor.passed text)
  pub last : IfSome cursor.last (λ mark. IsMark cursor.text_path.framing text mark.place mark)

abbrev pub StandsBy : Option (List ℕ) → Cursor → Type 0
StandsBy None cursor = ⊤
StandsBy (Some text) cursor = StandsIn text cursor

-- both in a file whose texts are separated so
abbrev pub StandBy : Option Framing → Option (List ℕ) → Cursors → Type 0
StandBy framing text cursors =
    ((cursors.ahead.text_path.framing ≡ framing) × (cursors.behind.text_path.framing ≡ framing)) × StandsBy text cursors.ahead × StandsBy text cursors.behind

-- How far a text was read.
use Rattle.std.specs.Prelude.{◌≡◌, ℕ, ◌+◌, ◌<◌, ◌≤◌, Bool, false, List, ◌++◌, length, take, drop, None}
use Rattle.gj_json.specs.Limits.{Allowed}
use Rattle.gj_json.specs.Refusal.{IsRefusal}
use Rattle.gj_rules.specs.declared.linter.Progress.{Progress}
use Rattle.gj_rules.specs.declared.linter.Progress.TheVariants.{Open, Refused}
use Rattle.gj_join.specs.Joiner.{Joins, limits_of, refusal_of}
use Rattle.gj_join.specs.RunLinter.{StandsFor}
use Rattle.gj_join.specs.declared.joiner.Joiner.{Joiner}
use Rattle.gj_join.specs.declared.run_linter.RunLinter.{RunLinter}
use Rattle.file_parts.specs.Cuts.{bytes_between}
use Rattle.file_parts.specs.ReadRuns.{HasStopped, IsReadRun}
use Rattle.file_parts.specs.declared.collections.runs.ReadRun.{ReadRun}

-- so many bytes from the place on stand in the piece: all that there are, where it has room for more
pub record IsFilled (text : List ℕ) (place count : ℕ) (piece : List ℕ) : Type 0 where
  pub given : drop place text ≡ take count piece ++ drop (place + count) text
  pub all : count < length piece → length text ≤ place + count

-- the linter of a run was fed the bytes between these places
pub record IsRead (text : List ℕ) (run : RunLinter) (begin place : ℕ) : Type 0 where
  pub ordered : begin ≤ place
  pub within : begin < place → place ≤ length text
  pub stands : StandsFor run begin (bytes_between begin place text)

-- and this is said of them, where no more is to be read if it is not open
pub record IsReading (limits : Allowed) (text : List ℕ) (linter : RunLinter) (begin enough : ℕ) (is_open : Bool) (run : ReadRun) : Type 0 where
  pub is_read : IsRead text linter begin run.reached
  pub says : IsReadRun limits text begin run
  pub why : is_open ≡ false → HasStopped limits text begin enough run

-- the joiner stands after the bytes before that place
pub record IsAt (limits : Allowed) (text : List ℕ) (joiner : Joiner) (place : ℕ) : Type 0 where
  pub within : place ≤ length text
  pub short : place ≤ limits.bytes
  pub under : limits_of joiner ≡ limits
  pub unrefused : refusal_of joiner ≡ None
  pub joins : Joins joiner (take place text)

-- it was fed up to a place or to the end of the text, or the text is refused
abbrev pub HasReached : Allowed → List ℕ → (until : ℕ) → Joiner → Progress → Type 0
HasReached limits text until joiner Open = (place : ℕ) × IsAt limits text joiner place × (place < until → length text ≤ place)
HasReached limits text until joiner (Refused fault) = IsRefusal limits text fault

-- What `Records` stand for, and what their calls report.
use Rattle.std.specs.Prelude.{◌≡◌, ℕ, List, ◌++◌, length, if◌then◌else◌, Bool, true, false}
use Rattle.gj_json.specs.Limits.{Allowed}
use Rattle.gj_rules.specs.declared.records.framing.Framing.{Framing}
use Rattle.gj_rules.specs.declared.records.record.Record.{Record}
use Rattle.gj_rules.specs.declared.records.Records.{Records}
use Rattle.gj_rules.specs.declared.sequence.verdict.SeqVerdict.{SeqVerdict}
use Rattle.gj_rules.specs.RecordFindings.{AreFindingsSoFar, AreAllFindings, whole_of}
use Rattle.gj_rules.specs.Internal.OpenParts.{IsOpen, IsOver}

-- what they are checked under, and how they are separated
abbrev pub limits_of : Records → Allowed
limits_of s = s.limits

abbrev pub framing_of : Records → Framing
framing_of s = s.framing

abbrev pub StandsBy : Bool → Records → List ℕ → List Record → Type 0
StandsBy false s bytes found = IsOpen s bytes found
StandsBy true s bytes found = IsOver s bytes found

-- They may have been fed these bytes, and have reported this. What it says is internal: a caller needs that `new` stands for no
-- bytes, and that each call keeps it.
abbrev pub StandsFor : Records → List ℕ → List Record → Type 0
StandsFor s bytes found = StandsBy s.is_over s bytes found

-- To a sink to which `before` was reported, and then what was found before these bytes were complete, they have reported more: what is
-- found in all records that have ended in the bytes.
pub record HaveTold (told : List Record → Type 0) (s : Records) (bytes : List ℕ) (before found : List Record) : Type 0 where
  pub more : List Record
  pub stands : StandsFor s bytes (found ++ more)
  pub findings : AreFindingsSoFar (framing_of s) (limits_of s) bytes (found ++ more)
  pub heard : told (before ++ (found ++ more))

-- As above, where no more than one was reported: whether there was one is said.
pub record HaveToldIf (one : Bool) (told : List Record → Type 0) (s : Records) (bytes : List ℕ) (before found : List Record) : Type 0 where
  pub have : HaveTold told s bytes before found
  pub one_or_none : length have.more ≡ (if one then 1 else 0)

-- At the end of the input they have reported what is found in all its records, and the verdict is what it is by them.
pub record HaveToldAll (told : List Record → Type 0) (framing : Framing) (limits : Allowed) (bytes : List ℕ) (before found : List Record)
    (verdict : SeqVerdict) : Type 0 where
  pub more : List Record
  pub findings : AreAllFindings framing limits bytes (found ++ more)
  pub whole : verdict ≡ whole_of (found ++ more)
  pub heard : told (before ++ (found ++ more))

-- As above, and whether one more record was reported.
pub record HaveToldAllIf (one : Bool) (told : List Record → Type 0) (framing : Framing) (limits : Allowed) (bytes : List ℕ) (before found : List Record)
    (verdict : SeqVerdict) : Type 0 where
  pub have : HaveToldAll told framing limits bytes before found verdict
  pub one_or_none : length have.more ≡ (if one then 1 else 0)

-- What a `Sequence` stands for, and what its calls answer.
use Rattle.std.specs.Prelude.{◌≡◌, ℕ, List, ◌++◌, Bool, true, false, Option, Some, None, is_some}
use Rattle.gj_json.specs.Limits.{Allowed}
use Rattle.gj_rules.specs.declared.records.record.Record.{Record}
use Rattle.gj_rules.specs.declared.sequence.SeqProgress.{SeqProgress}
use Rattle.gj_rules.specs.declared.sequence.SeqProgress.TheVariants.{Open, Decided}
use Rattle.gj_rules.specs.declared.sequence.Sequence.{Sequence}
use Rattle.gj_rules.specs.declared.sequence.verdict.SeqVerdict.{SeqVerdict}
use Rattle.gj_rules.specs.RecordFindings.{whole_of}
use Rattle.gj_rules.specs.RecordsStand.{StandsFor as RecordsStandFor}
use Rattle.gj_rules.specs.Sequence.{IsSequenceVerdict, IsUndecided, IsDecidedAt, is_valid_sequence}
use Rattle.gj_rules.specs.Internal.OpenRecord.{refused_in, refused_part}

-- what a sequence is checked under
abbrev pub limits_of : Sequence → Allowed
limits_of s = s.records.limits

-- The byte at the place decided: every input that begins with these bytes has this verdict.
pub record IsSettled (limits : Allowed) (bytes : List ℕ) (place : ℕ) (verdict : SeqVerdict) : Type 0 where
  pub at : IsDecidedAt limits bytes place
  pub fails : is_valid_sequence verdict ≡ false
  pub lasting : (more : List ℕ) → IsSequenceVerdict limits (bytes ++ more) verdict

-- no byte has decided
pub record IsLive (s : Sequence) (bytes : List ℕ) : Type 0 where
  pub found : List Record
  pub stands : RecordsStandFor s.records bytes found
  pub valid : is_valid_sequence (whole_of found) ≡ true
  pub refused : refused_part s.records.number s.records.is_void (refused_in s.records.record) ≡ None

-- the byte at the place has, and what came after is not taken
pub record HasDecided (s : Sequence) (bytes : List ℕ) (place : ℕ) : Type 0 where
  pub taken : List ℕ
  pub rest : List ℕ
  pub split : bytes ≡ taken ++ rest
  pub found : List Record
  pub stands : RecordsStandFor s.records taken found
  pub verdict : SeqVerdict
  pub settled : IsSettled s.records.limits taken place verdict

abbrev pub StandsBy : Option ℕ → Sequence → List ℕ → Type 0
StandsBy None s bytes = IsLive s bytes
StandsBy (Some place) s bytes = HasDecided s bytes place

-- The sequence may have been fed these bytes. What it says is internal: a caller needs that `new` stands for no bytes, and that
-- each call keeps it.
abbrev pub StandsFor : Sequence → List ℕ → Type 0
StandsFor s bytes = StandsBy s.decided s bytes

-- whether a byte has decided
abbrev pub is_decided : Sequence → Bool
is_decided s = is_some s.decided

-- ---- what its calls answer

abbrev pub says_decided : SeqProgress → Bool
says_decided Open = false
says_decided Decided = true

-- To bytes that were fed in all: none of them decides that a record is not valid, or one does, and every input that begins so
-- has the same verdict.
abbrev pub Answers : Allowed → List ℕ → SeqProgress → Type 0
Answers limits bytes Open = IsUndecided limits bytes
Answers limits bytes Decided = (place : ℕ) × (verdict : SeqVerdict) × IsSettled limits bytes place verdict

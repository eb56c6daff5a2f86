-- What a handle stands for that reports records, and what each of its calls gives.
use Rattle.std.specs.Prelude.{◌≡◌, ◌↔◌, ℕ, zero, suc, ◌<◌, ◌≤◌, true, false, Bool, if◌then◌else◌, List, [], ◌∷◌, ◌++◌, length, take, Option, Some, None, IsSomeAnd}
use Rattle.gj_json.specs.Limits.{Allowed}
use Rattle.gj_rules.specs.RecordFindings.{AreFindingsSoFar, AreAllFindings, whole_of}
use Rattle.gj_rules.specs.RecordsStand.{StandsFor as RecordsStandFor, limits_of, framing_of as framing_under}
use Rattle.gj_rules.specs.declared.records.Records.{Records}
use Rattle.gj_rules.specs.declared.records.framing.Framing.{Framing}
use Rattle.gj_rules.specs.declared.records.framing.Framing.TheVariants.{Sequence, Lines}
use Rattle.gj_rules.specs.declared.records.record.Record.{Record}
use Rattle.geolint_c.specs.declared.finding.Finding.{Finding}
use Rattle.geolint_c.specs.declared.finding.Progress.{Progress}
use Rattle.geolint_c.specs.declared.finding.Whole.{Whole}
use Rattle.geolint_c.specs.declared.last.LastRecord.{LastRecord}
use Rattle.geolint_c.specs.declared.records.RecordHandle.{RecordHandle}
use Rattle.geolint_c.specs.Finding.{IsRecord, IsWhole, no_finding, no_whole, progress_of}
use Rattle.geolint_c.specs.Options.{AreAllowed, limits_meant}

-- ---- what it stands for

-- it keeps what is found in the last of these, where there is one
abbrev pub IsLast : LastRecord → List Record → Type 0
IsLast last records = (earlier : List Record) (one : Record) → records ≡ earlier ++ one ∷ [] → IsRecord one last.finding

-- the framing of a number
abbrev pub framing_of : ℕ → Option Framing
framing_of zero = Some Sequence
framing_of (suc zero) = Some Lines
framing_of (suc (suc n)) = None

pub record Judges (last : LastRecord) (framing : Framing) (limits : Allowed) (bytes : List ℕ) (found : List Record) (records : Records) : Type 0 where
  pub stands : RecordsStandFor records bytes found
  pub under : limits_of records ≡ limits
  pub framed : framing_under records ≡ framing
  pub last_of : IsLast last found

-- It was begun so and fed these bytes, has reported these records, and has not ended.
abbrev pub StandsFor : RecordHandle → Framing → Allowed → List ℕ → List Record → Type 0
StandsFor handle framing limits bytes found = (handle.ended ≡ false) × IsSomeAnd handle.records (Judges handle.last framing limits bytes found)

abbrev pub HasEnded : RecordHandle → Type 0
HasEnded handle = handle.ended ≡ true

-- ---- begin

-- these limits and this framing are allowed
abbrev pub MayBegin : Option Framing → ℕ → ℕ → (Framing → Type 0) → Type 0
MayBegin None max_depth max_bytes Then = Unit {0}
MayBegin (Some framing) max_depth max_bytes Then = AreAllowed max_depth max_bytes → Then framing

abbrev pub MayNotBegin : Option Framing → ℕ → ℕ → Type 0 → Type 0
MayNotBegin None max_depth max_bytes Then = Then
MayNotBegin (Some framing) max_depth max_bytes Then = ¬ (AreAllowed max_depth max_bytes) → Then

-- it is before the first byte
pub record IsLive (framing : Framing) (limits : Allowed) (handle : RecordHandle) : Type 0 where
  pub stands : StandsFor handle framing limits [] []
  pub ready : handle.ready ≡ false

-- no record is ready then, whether it may begin or not
pub record IsBegun (framing max_depth max_bytes : ℕ) (handle : RecordHandle) : Type 0 where
  pub live : MayBegin (framing_of framing) max_depth max_bytes (λ framing. IsLive framing (limits_meant max_depth max_bytes) handle)
  pub ended : MayNotBegin (framing_of framing) max_depth max_bytes (HasEnded handle × (handle.ready ≡ false))

pub record BegunStatus (framing max_depth max_bytes status : ℕ) : Type 0 where
  pub live : MayBegin (framing_of framing) max_depth max_bytes (λ framing. status ≡ 0)
  pub ended : MayNotBegin (framing_of framing) max_depth max_bytes (status ≡ 3)

-- ---- feed

-- 1 where more bytes came than are allowed
abbrev pub over_status : Bool → ℕ
over_status is_over = if is_over then 1 else 0

-- the records that have ended in more bytes: one more, or none
pub record TellsOn (new : RecordHandle) (framing : Framing) (limits : Allowed) (bytes : List ℕ) (found : List Record) (status : ℕ) : Type 0 where
  pub more : List Record
  pub stands : StandsFor new framing limits bytes (found ++ more)
  pub findings : AreFindingsSoFar framing limits bytes (found ++ more)
  pub one_or_none : length more ≡ (if new.ready then 1 else 0)
  pub over : (status ≡ 1) ↔ (limits.bytes < length bytes)

pub record IsFed (old : RecordHandle) (piece : List ℕ) (told : Progress) (new : RecordHandle) : Type 0 where
  pub within : told.taken ≤ length piece
  pub tells : (framing : Framing) (limits : Allowed) (bytes : List ℕ) (found : List Record) → old.ready ≡ false → StandsFor old framing limits bytes found
      → TellsOn new framing limits (bytes ++ take told.taken piece) found told.status
  pub ready : old.ended ≡ false → told.ready ≡ (if new.ready then 1 else 0)
  pub all : old.ended ≡ false → new.ready ≡ false → told.taken ≡ length piece
  pub waits : old.ended ≡ false → old.ready ≡ true → (told ≡ progress_of 0 5 true) × (new ≡ old)
  pub ended : HasEnded old → (told ≡ progress_of 0 2 false) × (new ≡ old)

-- ---- next

pub record IsNext (old : RecordHandle) (told : Finding) (new : RecordHandle) : Type 0 where
  pub stands : (framing : Framing) (limits : Allowed) (bytes : List ℕ) (found : List Record) → StandsFor old framing limits bytes found
      → StandsFor new framing limits bytes found
  pub finding : old.ready ≡ true → (earlier : List Record) (one : Record) → IsLast old.last (earlier ++ one ∷ []) → IsRecord one told
  pub pulled : new.ready ≡ false
  pub none : old.ready ≡ false → (told ≡ no_finding 6) × (new ≡ old)

-- ---- offset

pub record IsOffset (old : RecordHandle) (offset : ℕ) (new : RecordHandle) : Type 0 where
  pub taken : (framing : Framing) (limits : Allowed) (bytes : List ℕ) (found : List Record) → StandsFor old framing limits bytes found
      → offset ≡ length (take limits.bytes bytes)
  pub ended : HasEnded old → offset ≡ 0
  pub unchanged : new ≡ old

-- ---- finish

-- what is found in all records, the last of which may be reported now; and what the input is by them
pub record TellsAll (new : RecordHandle) (framing : Framing) (limits : Allowed) (bytes : List ℕ) (found : List Record) (told : Whole) : Type 0 where
  pub more : List Record
  pub findings : AreAllFindings framing limits bytes (found ++ more)
  pub whole : IsWhole (whole_of (found ++ more)) told
  pub last_of : IsLast new.last (found ++ more)
  pub one_or_none : length more ≡ (if new.ready then 1 else 0)

pub record IsFinished (old : RecordHandle) (told : Whole) (new : RecordHandle) : Type 0 where
  pub whole : (framing : Framing) (limits : Allowed) (bytes : List ℕ) (found : List Record) → old.ready ≡ false → StandsFor old framing limits bytes found
      → TellsAll new framing limits bytes found told
  pub last : old.ready ≡ false → HasEnded new
  pub waits : old.ended ≡ false → old.ready ≡ true → (told ≡ no_whole 5) × (new ≡ old)
  pub ended : HasEnded old → (told ≡ no_whole 2) × (new ≡ old)

-- What a GeoJSON text sequence is, as a whole (RFC 8142; RFC 7464, section 2): the records that an input is cut into, what
-- each of them is, and what the sequence is by the first that is not valid.
use Rattle.std.specs.Prelude.{◌≡◌, ℕ, ◌+◌, ◌≤◌, ◌<◌, List, [], ◌∷◌, ◌++◌, length, take, Bool, true, false, ◌&&◌, ◌||◌, not, nat_eq, nat_lt, if◌then◌else◌}
use Rattle.gj_json.specs.Limits.{Allowed}
use Rattle.gj_json.specs.Bytes.{line_feed}
use Rattle.gj_json.specs.Text.{IsViableWithin}
use Rattle.gj_json.specs.declared.fault.Cause.{Cause}
use Rattle.gj_json.specs.declared.fault.Cause.TheVariants.{Syntax, Truncated, Depth, Length}
use Rattle.gj_coords.specs.Fault.{fault_at}
use Rattle.gj_coords.specs.Internal.KeptWarnings.{no_warnings, joined, shifted}
use Rattle.gj_coords.specs.Warnings.{Warning}
use Rattle.gj_coords.specs.WarningsStand.{StandsFor as WarningsStandFor}
use Rattle.gj_coords.specs.declared.warnings.Warnings.{Warnings}
use Rattle.gj_rules.specs.declared.sequence.verdict.SeqVerdict.{SeqVerdict}
use Rattle.gj_rules.specs.declared.verdict.Verdict.{Verdict}
use Rattle.gj_rules.specs.declared.verdict.Verdict.TheVariants.{Valid, Broken, NotJson}
use Rattle.gj_rules.specs.Verdict.{Judgement, Says, IsVerdict}

-- ---- records

-- the byte RS, which can stand in no JSON text
abbrev pub separator : ℕ
separator = 30

abbrev pub is_separator : ℕ → Bool
is_separator byte = nat_eq byte separator

abbrev pub begins_with_separator : List ℕ → Bool
begins_with_separator [] = false
begins_with_separator (byte ∷ more) = is_separator byte

abbrev pub has_separator : List ℕ → Bool
has_separator [] = false
has_separator (byte ∷ more) = is_separator byte || has_separator more

-- the bytes before the next separator, or before the end
abbrev pub up_to_separator : List ℕ → List ℕ
up_to_separator [] = []
up_to_separator (byte ∷ more) = if is_separator byte then [] else byte ∷ up_to_separator more

-- A record: the place of its first byte, its bytes, and whether the limit on the input's length cuts it off, so that neither a
-- separator nor the input's end follows it.
pub record SequenceRecord : Type 0 where
  pub start : ℕ
  pub bytes : List ℕ
  pub is_cut : Bool

-- A record begins after each separator that no other separator follows, so that a run of them begins one record.
abbrev pub records_from : Bool → ℕ → List ℕ → List SequenceRecord
records_from is_cut place [] = []
records_from is_cut place (byte ∷ more) =
    if is_separator byte && not (begins_with_separator more)
    then record { start = place + 1; bytes = up_to_separator more; is_cut = is_cut && not (has_separator more) } ∷ records_from is_cut (place + 1) more
    else records_from is_cut (place + 1) more

-- the records of an input, as far as its length is allowed
abbrev pub records_of : Allowed → List ℕ → List SequenceRecord
records_of limits bytes = records_from (nat_lt limits.bytes (length bytes)) 0 (take limits.bytes bytes)

-- ---- what one record is

-- a verdict, with each place so many bytes further on
abbrev pub shifted_verdict : ℕ → Verdict → Verdict
shifted_verdict by (Valid warnings) = Valid (shifted warnings by)
shifted_verdict by (Broken fault) = Broken (fault_at (fault.place + by) fault.rule)
shifted_verdict by (NotJson fault) = NotJson (record { place = fault.place + by; cause = fault.cause })

abbrev pub not_json : ℕ → Cause → Verdict
not_json place cause = NotJson (record { place = place; cause = cause })

-- the last of a byte and those after it
abbrev pub last_byte : ℕ → List ℕ → ℕ
last_byte byte [] = byte
last_byte byte (next ∷ more) = last_byte next more

-- whether a record's text is ended by LF; an empty record ends in its separator
abbrev pub ends_in_line_feed : List ℕ → Bool
ends_in_line_feed bytes = nat_eq (last_byte separator bytes) line_feed

-- A text that is not ended by LF may have lost its end: it is truncated there. A refusal comes before that.
abbrev pub if_ended : Bool → ℕ → Verdict → Verdict
if_ended true end verdict = verdict
if_ended false end (NotJson fault) = NotJson fault
if_ended false end (Valid warnings) = not_json end Truncated
if_ended false end (Broken fault) = not_json end Truncated

-- Where the limit cuts a record off, a refusal by one of its bytes stands, and all else is too long.
abbrev pub cut_fault : Cause → ℕ → ℕ → Verdict
cut_fault Syntax place end = not_json place Syntax
cut_fault Depth place end = not_json place Depth
cut_fault Truncated place end = not_json end Length
cut_fault Length place end = not_json end Length

abbrev pub if_cut : ℕ → Verdict → Verdict
if_cut end (NotJson fault) = cut_fault fault.cause fault.place end
if_cut end (Valid warnings) = not_json end Length
if_cut end (Broken fault) = not_json end Length

abbrev pub record_end : Bool → List ℕ → Verdict → Verdict
record_end true bytes verdict = if_cut (length bytes) verdict
record_end false bytes verdict = if_ended (ends_in_line_feed bytes) (length bytes) verdict

-- a record's length is not limited
abbrev pub own_limits : ℕ → List ℕ → Allowed
own_limits levels bytes = record { depth = levels; bytes = length bytes }

-- the verdict of a record: that of its bytes by themselves, as the record ends, with its places from the start of the input
abbrev pub IsRecordVerdict : ℕ → SequenceRecord → Verdict → Type 0
IsRecordVerdict levels r verdict =
    (own : Verdict) × IsVerdict (own_limits levels r.bytes) r.bytes own × (verdict ≡ shifted_verdict r.start (record_end r.is_cut r.bytes own))

-- ---- what a sequence is

abbrev pub is_valid : Verdict → Bool
is_valid (Valid warnings) = true
is_valid (Broken fault) = false
is_valid (NotJson fault) = false

abbrev pub is_valid_sequence : SeqVerdict → Bool
is_valid_sequence (SeqVerdict.Valid count warnings) = true
is_valid_sequence (SeqVerdict.Record number verdict) = false

-- all records are valid, with these warnings in all
abbrev pub AllValid : ℕ → List SequenceRecord → Warnings → Type 0
AllValid levels [] warnings = warnings ≡ no_warnings
AllValid levels (r ∷ more) warnings =
    (first rest : Warnings) × IsRecordVerdict levels r (Valid first) × AllValid levels more rest × (warnings ≡ joined first rest)

-- the first record that is not valid, counted from 1
pub record IsFirstFailing (levels : ℕ) (records : List SequenceRecord) (number : ℕ) (verdict : Verdict) : Type 0 where
  pub before : List SequenceRecord
  pub failing : SequenceRecord
  pub after : List SequenceRecord
  pub split : records ≡ before ++ failing ∷ after
  pub counted : number ≡ length before + 1
  pub warnings : Warnings
  pub valid : AllValid levels before warnings
  pub verdict_of_it : IsRecordVerdict levels failing verdict
  pub fails : is_valid verdict ≡ false

-- no byte may stand before the first separator
abbrev pub is_stray : List ℕ → Bool
is_stray [] = false
is_stray (byte ∷ more) = not (is_separator byte)

-- by its records, or by a byte before the first of them
abbrev pub IsJudgedBy : Bool → ℕ → List SequenceRecord → SeqVerdict → Type 0
IsJudgedBy true levels records verdict = verdict ≡ SeqVerdict.Record 0 (not_json 0 Syntax)
IsJudgedBy false levels records (SeqVerdict.Valid count warnings) = AllValid levels records warnings × (count ≡ length records)
IsJudgedBy false levels records (SeqVerdict.Record number verdict) = IsFirstFailing levels records number verdict

abbrev pub IsSequenceVerdict : Allowed → List ℕ → SeqVerdict → Type 0
IsSequenceVerdict limits bytes verdict = IsJudgedBy (is_stray bytes) limits.depth (records_of limits bytes) verdict

-- ---- what is reported of it

-- so many records, all of them valid, with a list of all their warnings; or the record that is not valid, and what it is
pub data SequenceJudgement : Type 0 where
  all_valid : (records : ℕ) → (warnings : List Warning) → SequenceJudgement
  failing : (number : ℕ) → (judgement : Judgement) → SequenceJudgement

-- a verdict says the same, and of the warnings what a `Warnings` says
abbrev pub SequenceSays : SeqVerdict → SequenceJudgement → Type 0
SequenceSays (SeqVerdict.Valid count told) (all_valid records warnings) = (count ≡ records) × WarningsStandFor told warnings
SequenceSays (SeqVerdict.Record told verdict) (failing number judgement) = (told ≡ number) × Says verdict judgement
SequenceSays _ _ = ⊥

-- ---- what the bytes of a sequence decide

-- each record but the last is valid, and the last may still become a text
pub record IsOpenIn (levels : ℕ) (records : List SequenceRecord) : Type 0 where
  pub before : List SequenceRecord
  pub last : SequenceRecord
  pub split : records ≡ before ++ last ∷ []
  pub warnings : Warnings
  pub valid : AllValid levels before warnings
  pub viable : IsViableWithin levels last.bytes

abbrev pub AreOpen : ℕ → List SequenceRecord → Type 0
AreOpen levels [] = Unit {0}
AreOpen levels (r ∷ more) = IsOpenIn levels (r ∷ more)

-- no byte decides that a record is not valid
pub record IsUndecided (limits : Allowed) (bytes : List ℕ) : Type 0 where
  pub fits : length bytes ≤ limits.bytes
  pub begun : is_stray bytes ≡ false
  pub «open» : AreOpen limits.depth (records_of limits bytes)

-- the byte at the place is the first that decides it
pub record IsDecidedAt (limits : Allowed) (bytes : List ℕ) (place : ℕ) : Type 0 where
  pub within : place < length bytes
  pub before : IsUndecided limits (take place bytes)
  pub decides : IsUndecided limits (take (place + 1) bytes) → ⊥

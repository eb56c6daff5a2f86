-- What is found in each record of an input, and what the input is by them as a whole.
use Rattle.std.specs.Prelude.{◌≡◌, ℕ, zero, suc, ◌+◌, List, [], ◌∷◌, length, Bool, if◌then◌else◌, take}
use Rattle.gj_json.specs.Limits.{Allowed}
use Rattle.gj_json.specs.declared.fault.Cause.TheVariants.{Syntax}
use Rattle.gj_coords.specs.Internal.KeptWarnings.{no_warnings, joined}
use Rattle.gj_coords.specs.declared.warnings.Warnings.{Warnings}
use Rattle.gj_rules.specs.declared.records.framing.Framing.{Framing}
use Rattle.gj_rules.specs.declared.records.framing.Framing.TheVariants.{Sequence, Lines}
use Rattle.gj_rules.specs.declared.records.framing.RecordEnd.{RecordEnd}
use Rattle.gj_rules.specs.declared.records.framing.RecordEnd.TheVariants.{Separator, Input, Limit}
use Rattle.gj_rules.specs.declared.records.record.Record.{Record}
use Rattle.gj_rules.specs.declared.sequence.verdict.SeqVerdict.{SeqVerdict}
use Rattle.gj_rules.specs.declared.verdict.Verdict.{Verdict}
use Rattle.gj_rules.specs.declared.verdict.Verdict.TheVariants.{Valid, Broken, NotJson}
use Rattle.gj_rules.specs.Records.{Part, Entry, parts_from, is_too_long, entries_in, entries_of}
use Rattle.gj_rules.specs.Sequence.{shifted_verdict, not_json, ends_in_line_feed, if_ended, if_cut, own_limits}
use Rattle.gj_rules.specs.Verdict.{IsVerdict}

-- ---- one record

-- The verdict of a record of this length, given that of its bytes. A text of a sequence ends with LF (RFC 8142, section 2).
abbrev pub ended_as : Framing → RecordEnd → Bool → ℕ → Verdict → Verdict
ended_as framing Limit has_line_feed end own = if_cut end own
ended_as Lines Separator has_line_feed end own = own
ended_as Lines Input has_line_feed end own = own
ended_as Sequence Separator has_line_feed end own = if_ended has_line_feed end own
ended_as Sequence Input has_line_feed end own = if_ended has_line_feed end own

-- that of its bytes by themselves, as the record ends, with its places from the start of the input
abbrev pub IsOwnVerdict : Framing → ℕ → Part → Verdict → Type 0
IsOwnVerdict framing levels part verdict =
    (own : Verdict) × IsVerdict (own_limits levels part.bytes) part.bytes own
    × (verdict ≡ shifted_verdict part.start (ended_as framing part.end (ends_in_line_feed part.bytes) (length part.bytes) own))

-- what stands before the first separator of a sequence is no text of it
abbrev pub IsNumberedVerdict : Framing → ℕ → ℕ → Part → Verdict → Type 0
IsNumberedVerdict framing levels zero part verdict = verdict ≡ not_json part.start Syntax
IsNumberedVerdict framing levels (suc n) part verdict = IsOwnVerdict framing levels part verdict

pub record IsFinding (framing : Framing) (levels : ℕ) (entry : Entry) (found : Record) : Type 0 where
  pub number : found.number ≡ entry.number
  pub place : found.place ≡ entry.part.start
  pub end : found.end ≡ entry.part.start + length entry.part.bytes
  pub verdict : IsNumberedVerdict framing levels entry.number entry.part found.verdict

-- ---- all records

-- as many, each in its turn
abbrev pub AreFindings : Framing → ℕ → List Entry → List Record → Type 0
AreFindings framing levels [] [] = Unit {0}
AreFindings framing levels (entry ∷ more) (found ∷ others) = IsFinding framing levels entry found × AreFindings framing levels more others
AreFindings framing levels _ _ = ⊥

-- what is found in the records of an input
abbrev pub AreAllFindings : Framing → Allowed → List ℕ → List Record → Type 0
AreAllFindings framing limits bytes found = AreFindings framing limits.depth (entries_of framing limits bytes) found

-- ---- the records that bytes show whole

abbrev pub but_last : List Part → List Part
but_last [] = []
but_last (part ∷ []) = []
but_last (part ∷ next ∷ more) = part ∷ but_last (next ∷ more)

-- the last part may go on, unless the limit cuts it off
abbrev pub whole_parts : Framing → Allowed → List ℕ → List Part
whole_parts framing limits bytes =
    if is_too_long limits bytes then parts_from framing Limit 0 (take limits.bytes bytes) else but_last (parts_from framing Input 0 bytes)

-- what is found in the records that have ended in these bytes
abbrev pub AreFindingsSoFar : Framing → Allowed → List ℕ → List Record → Type 0
AreFindingsSoFar framing limits bytes found = AreFindings framing limits.depth (entries_in framing (whole_parts framing limits bytes)) found

-- ---- the whole

-- after valid records with these warnings comes the record of this number
abbrev pub joined_with : Warnings → ℕ → Verdict → SeqVerdict
joined_with warnings number (Valid more) = SeqVerdict.Valid number (joined warnings more)
joined_with warnings number (Broken fault) = SeqVerdict.Record number (Broken fault)
joined_with warnings number (NotJson fault) = SeqVerdict.Record number (NotJson fault)

abbrev pub after : SeqVerdict → Record → SeqVerdict
after (SeqVerdict.Valid count warnings) found = joined_with warnings found.number found.verdict
after (SeqVerdict.Record number verdict) found = SeqVerdict.Record number verdict

abbrev pub whole_from : SeqVerdict → List Record → SeqVerdict
whole_from verdict [] = verdict
whole_from verdict (found ∷ more) = whole_from (after verdict found) more

-- the first record that is not valid, or all of them valid, with their warnings joined; the last one's number says how many
abbrev pub whole_of : List Record → SeqVerdict
whole_of found = whole_from (SeqVerdict.Valid 0 no_warnings) found

-- what an input is as a whole, by all that is found in its records
abbrev pub IsWholeVerdict : Framing → Allowed → List ℕ → SeqVerdict → Type 0
IsWholeVerdict framing limits bytes verdict = (found : List Record) × AreAllFindings framing limits bytes found × (verdict ≡ whole_of found)

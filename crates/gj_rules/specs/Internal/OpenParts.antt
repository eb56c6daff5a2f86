-- What `Records` keep while the input may go on: the records that have ended, and the part that is open.
use Rattle.std.specs.Prelude.{◌≡◌, ℕ, ◌≤◌, ◌<◌, List, ◌++◌, length, false}
use Rattle.gj_rules.specs.declared.records.framing.RecordEnd.{RecordEnd}
use Rattle.gj_rules.specs.declared.records.record.Record.{Record}
use Rattle.gj_rules.specs.declared.records.Records.{Records}
use Rattle.gj_rules.specs.RecordFindings.{AreFindings, AreAllFindings, whole_of}
use Rattle.gj_rules.specs.Sequence.{is_valid_sequence}
use Rattle.gj_rules.specs.Records.{Part, parts_from, entries_in, separator_of, is_void, number_from, first_number}
use Rattle.gj_rules.specs.Internal.BytesBefore.{has_byte}
use Rattle.gj_rules.specs.Internal.OpenRecord.{StandsFor as RecordStandsFor}

-- a part is open, of which these bytes came after those that have ended
pub record IsOpen (s : Records) (bytes : List ℕ) (found : List Record) : Type 0 where
  pub done : List Part
  pub before : List ℕ
  pub given : List ℕ
  pub split : bytes ≡ before ++ given
  pub cut : (last : RecordEnd) (more : List ℕ) → parts_from s.framing last 0 (before ++ more) ≡ done ++ parts_from s.framing last s.record.start more
  pub plain : has_byte (separator_of s.framing) given ≡ false
  pub stands : RecordStandsFor s.record given
  pub depth : s.record.limits.depth ≡ s.limits.depth
  pub taken : s.record.end ≡ length bytes
  pub fits : length bytes ≤ s.limits.bytes
  pub void : s.is_void ≡ is_void s.framing given
  pub number : s.number ≡ number_from s.framing (first_number s.framing) done
  pub are : AreFindings s.framing s.limits.depth (entries_in s.framing done) found
  pub whole : s.whole ≡ whole_of found

-- a byte beyond the limit has come
pub record IsOver (s : Records) (bytes : List ℕ) (found : List Record) : Type 0 where
  pub beyond : s.limits.bytes < length bytes
  pub end : s.record.end ≡ s.limits.bytes
  pub are : AreAllFindings s.framing s.limits bytes found
  pub whole : s.whole ≡ whole_of found
  pub fails : is_valid_sequence s.whole ≡ false

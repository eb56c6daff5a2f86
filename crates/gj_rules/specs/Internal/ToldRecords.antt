-- What a call of `Records` reports of the open record, and what it leaves.
use Rattle.std.specs.Prelude.{◌≡◌, ℕ, List, [], ◌∷◌, ◌++◌}
use Rattle.gj_rules.specs.declared.records.framing.RecordEnd.{RecordEnd}
use Rattle.gj_rules.specs.declared.records.record.Record.{Record}
use Rattle.gj_rules.specs.declared.records.Records.{Records}
use Rattle.gj_rules.specs.RecordFindings.{IsFinding, after}
use Rattle.gj_rules.specs.Records.{part_at, entry_at}
use Rattle.gj_rules.specs.Internal.OpenRecord.{StandsFor as RecordStandsFor}

-- what they are checked under, and how they are separated
pub record Keeps (old new : Records) : Type 0 where
  pub limits : new.limits ≡ old.limits
  pub framing : new.framing ≡ old.framing

-- all but the open record and the verdict of those before it
pub record KeepsAll (old new : Records) : Type 0 where
  pub limits : new.limits ≡ old.limits
  pub framing : new.framing ≡ old.framing
  pub number : new.number ≡ old.number
  pub is_void : new.is_void ≡ old.is_void
  pub is_over : new.is_over ≡ old.is_over

-- the open record is reported as it ends so, and one without a byte is open at the place
pub record TellsOne (before after_it : List Record → Type 0) (ending : RecordEnd) (next : ℕ) (old new : Records) : Type 0 where
  pub tells : (given : List ℕ) (records : List Record) → RecordStandsFor old.record given → before records →
      (found : Record) × IsFinding old.framing old.record.limits.depth (entry_at old.number (part_at old.record.start given ending)) found
      × (new.whole ≡ after old.whole found) × after_it (records ++ found ∷ [])
  pub stands : RecordStandsFor new.record []
  pub start : new.record.start ≡ next
  pub end : new.record.end ≡ next
  pub depth : new.record.limits ≡ old.record.limits
  pub rest : KeepsAll old new

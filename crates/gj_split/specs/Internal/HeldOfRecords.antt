-- What two writers hold of the records that were reported, and what was read of an input.
use Rattle.std.specs.Prelude.{◌≡◌, ℕ, List, Option, Some, None}
use Rattle.gj_rules.specs.declared.records.record.Record.{Record}
use Rattle.gj_rules.specs.declared.records.Records.{Records}
use Rattle.gj_rules.specs.RecordsStand.{StandsFor}
use Rattle.gj_split.specs.Holding.{AreHeld}
use Rattle.gj_split.specs.RecordSplit.{split_records}
use Rattle.gj_split.specs.declared.splitter.Counts.{Counts}

-- once it has stopped nothing is said
abbrev pub HoldsUnless : {A : Type 0} → Option A → List ℕ → List Record → Option (List ℕ) → Option (List ℕ) → Counts → Type 0
HoldsUnless None bytes records valid broken counts = AreHeld (split_records bytes records) valid broken counts
HoldsUnless (Some stop) bytes records valid broken counts = Unit {0}

-- where the source tells its bytes
abbrev pub HoldsRecords : {A : Type 0} → Option (List ℕ) → Option A → Option (List ℕ) → Option (List ℕ) → Counts → List Record → Type 0
HoldsRecords known stop valid broken counts records = (bytes : List ℕ) → known ≡ Some bytes → HoldsUnless stop bytes records valid broken counts

-- the records were fed all these bytes, or enough of them that no further one matters, and what they have found was reported to a sink
pub record AreRead (told : List Record → Type 0) (records : Records) (bytes : List ℕ) : Type 0 where
  pub found : List Record
  pub stands : StandsFor records bytes found
  pub heard : told found

-- What two writers hold of the features of a text.
use Rattle.std.specs.Prelude.{◌≡◌, ℕ, List, [], length, Option, Some}
use Rattle.std.specs.Io.Iter.{u64_saturate}
use Rattle.gj_split.specs.Split.{Split, sequence_of}
use Rattle.gj_split.specs.declared.splitter.Counts.{Counts}

-- the records of both parts and nothing else, and how many they are, as far as a `u64` counts
pub record AreHeld (parts : Split) (valid broken : Option (List ℕ)) (counts : Counts) : Type 0 where
  pub valid_records : valid ≡ Some (sequence_of parts.valid)
  pub broken_records : broken ≡ Some (sequence_of parts.broken)
  pub valid_counted : counts.valid ≡ u64_saturate (length parts.valid)
  pub broken_counted : counts.broken ≡ u64_saturate (length parts.broken)

-- the source has these bytes, and the writers hold none
pub record AreKnown (source valid broken : Option (List ℕ)) (bytes : List ℕ) : Type 0 where
  pub source_bytes : source ≡ Some bytes
  pub none_valid : valid ≡ Some []
  pub none_broken : broken ≡ Some []

-- What a linter stands for that reports the features of its input.
use Rattle.std.specs.Prelude.{ℕ, List, take, Option}
use Rattle.gj_json.specs.declared.fault.JsonFault.{JsonFault}
use Rattle.gj_json.specs.Limits.{Allowed}
use Rattle.gj_json.specs.Reader.{StandsFor as ReaderStandsFor, limits_of as reader_limits, refusal_of as reader_refusal, offset_of as reader_offset}
use Rattle.gj_rules.specs.declared.feature.Feature.{Feature}
use Rattle.gj_rules.specs.declared.feature_linter.FeatureLinter.{FeatureLinter}
use Rattle.gj_rules.specs.Linter.{AreToldOf}
use Rattle.gj_rules.specs.Internal.FeatureSteps.{Stand}

module _ {S : Type 0} where
  -- The linter may have been fed these bytes, refused ones among them, where `Told` says what was reported to its sink. What it says
  -- is internal: a caller needs that `new` stands for no bytes, and that each call keeps it.
  unfoldable pub StandsFor : (S → List Feature → Type 0) → FeatureLinter S → List ℕ → Type 0
  StandsFor Told linter bytes = ReaderStandsFor linter.reader bytes
      × AreToldOf (Stand (Told linter.rules.sink) linter.rules.rules linter.rules.count) (take (reader_offset linter.reader) bytes)
      (reader_offset linter.reader)

  -- what it checks under
  abbrev pub limits_of : FeatureLinter S → Allowed
  limits_of linter = reader_limits linter.reader

  -- the refusal, once there was one
  abbrev pub refusal_of : FeatureLinter S → Option JsonFault
  refusal_of linter = reader_refusal linter.reader

  -- how many bytes it took
  abbrev pub offset_of : FeatureLinter S → ℕ
  offset_of linter = reader_offset linter.reader

  -- what the features are reported to
  abbrev pub sink_of : FeatureLinter S → S
  sink_of linter = linter.rules.sink

-- What a writer has passed on that checks the bytes as a text sequence.
use Rattle.std.specs.Prelude.{ℕ, List}
use Rattle.gj_rules.specs.SequenceStands.{StandsFor}
use Rattle.gj_split.specs.declared.files.judged.Judged.{Judged}

module _ {W : Type 0} where
  -- it may have passed on these bytes
  abbrev pub Stands : Judged W → List ℕ → Type 0
  Stands judged bytes = StandsFor judged.sequence bytes

  abbrev pub out_of : Judged W → W
  out_of judged = judged.out

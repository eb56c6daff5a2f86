-- Values that are no arrays and no objects, as they are read whole.
use Rattle.std.specs.Prelude.{◌≡◌, ℕ, List}
use Rattle.gj_number.specs.Grammar.{IsNumber}
use Rattle.gj_json.specs.declared.constant.Constant.{Constant}
use Rattle.gj_json.specs.Grammar.{letters_of}
use Rattle.gj_json.specs.Internal.WholeTokens.{IsString}

pub data IsScalar (bytes : List ℕ) : Type 0 where
  text : IsString bytes → IsScalar bytes
  digits : IsNumber bytes → IsScalar bytes
  literal : (which : Constant) → bytes ≡ letters_of which → IsScalar bytes

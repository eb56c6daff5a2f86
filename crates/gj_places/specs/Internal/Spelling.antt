-- What stands in a string of JSON for some characters.
use Rattle.std.specs.Prelude.{◌≡◌, ℕ, ◌/◌, ◌%◌, List, [], ◌∷◌, ◌++◌}
use Rattle.std.specs.Char.{digit_char}
use Rattle.std.specs.Str.{NoCharPasses}
use Rattle.json.specs.Lex.{lex, in_string}
use Rattle.json.specs.Text.{content, plain, prepend}
use Rattle.gj_places.specs.Excerpts.{is_harmful}

-- within a string these bytes are read as the text, whatever comes after them, and none of their characters is harmful
pub record SpellsInside (text spelled : List ℕ) : Type 0 where
  pub reads : (rest : List ℕ) → content plain (spelled ++ rest) ≡ prepend text (content plain rest)
  pub goes_on : (rest : List ℕ) → lex in_string (spelled ++ rest) ≡ lex in_string rest
  pub harmless : NoCharPasses is_harmful spelled

abbrev pub hex_digit : ℕ → ℕ
hex_digit n = digit_char (n % 16)

-- the escape of a character by its code
abbrev pub code_escape : ℕ → List ℕ
code_escape code = 92 ∷ 117 ∷ hex_digit (code / 4096) ∷ hex_digit (code / 256) ∷ hex_digit (code / 16) ∷ hex_digit code ∷ []

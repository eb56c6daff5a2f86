-- How bytes are spelled as a string of JSON (RFC 8259, section 7).
use Rattle.std.specs.Prelude.{◌≡◌, ℕ, List, Some}
use Rattle.std.specs.Str.{NoCharPasses}
use Rattle.std.specs.Str.Lossy.{utf8_lossy}
use Rattle.serde_json.specs.Data.{string}
use Rattle.serde_json.specs.Read.{read}
use Rattle.gj_places.specs.Excerpts.{is_harmful}

-- It is read back as the characters of these bytes, where U+FFFD stands for each part that is no UTF-8. None of its own characters is
-- one that a terminal would obey.
pub record SpellsString (bytes spelled : List ℕ) : Type 0 where
  pub reads : read spelled ≡ Some (string (utf8_lossy bytes))
  pub harmless : NoCharPasses is_harmful spelled

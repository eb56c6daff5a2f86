-- Whole tokens, as they are read, and what one leaves of a reader.
use Rattle.std.specs.Prelude.{◌≡◌, ℕ, ◌+◌, ◌-◌, Bool, true, false, List, [], ◌∷◌, ◌++◌, get_or, take}
use Rattle.gj_json.specs.Bytes.{quote, open_bracket, open_brace, close_bracket, close_brace, colon as colon_byte}
use Rattle.gj_json.specs.Characters.{SpellsCharacter}
use Rattle.gj_json.specs.declared.levels.Level.{Level}
use Rattle.gj_json.specs.declared.levels.Level.TheVariants.{Array, Object}
use Rattle.gj_json.specs.declared.mode.Mode.{Mode}
use Rattle.gj_json.specs.declared.mode.Mode.TheVariants.{TextDue, ValueDue, ArrayOpened, NameDue, ObjectOpened}
use Rattle.gj_json.specs.declared.mode.StringState.TheVariants.{Plain}
use Rattle.gj_json.specs.declared.names.Known.{Known}
use Rattle.gj_json.specs.declared.names.Word.{Word}
use Rattle.gj_json.specs.declared.reader.Reader.{Reader}
use Rattle.gj_json.specs.Names.{known_of, word_of}
use Rattle.gj_json.specs.Internal.FlatParts.{cut}
use Rattle.gj_json.specs.Internal.OpenLevels.{levels_in}
use Rattle.gj_json.specs.Internal.QuietBytes.{Reads}

-- one character of a string, and some of them
abbrev pub IsCharacter : List ℕ → Type 0
IsCharacter bytes = (c : ℕ) × SpellsCharacter c bytes

abbrev pub AreCharacters : List ℕ → Type 0
AreCharacters bytes = (characters : List ℕ) × Reads Plain bytes characters Plain

-- characters that are one byte each, in quotes
pub record IsQuoted (content bytes : List ℕ) : Type 0 where
  pub spelled : bytes ≡ quote ∷ (content ++ quote ∷ [])
  pub reads : Reads Plain content content Plain

-- a piece starts with a name of plain characters, of so many bytes with its quotes, and a colon follows
pub record IsUsualName (piece : List ℕ) (count : ℕ) (known : Known) : Type 0 where
  pub quoted : IsQuoted (cut piece 1 (count - 1)) (take count piece)
  pub known_as : known_of (cut piece 1 (count - 1)) ≡ known
  pub colon : get_or piece count 0 ≡ colon_byte

-- a piece starts with a string of plain characters, of so many bytes with its quotes
pub record IsUsualText (piece : List ℕ) (count : ℕ) (word : Word) : Type 0 where
  pub quoted : IsQuoted (cut piece 1 (count - 1)) (take count piece)
  pub known_as : word_of (cut piece 1 (count - 1)) ≡ word

-- characters of any kind, in quotes
pub record IsString (bytes : List ℕ) : Type 0 where
  pub run : List ℕ
  pub characters : List ℕ
  pub is : bytes ≡ quote ∷ (run ++ quote ∷ [])
  pub reads : Reads Plain run characters Plain

-- whether a name may begin here
abbrev pub names : Mode → Bool
names NameDue = true
names ObjectOpened = true
names _ = false

-- whether a bracket may open a level here, also that of the text's value
abbrev pub may_begin : Mode → Bool
may_begin TextDue = true
may_begin ValueDue = true
may_begin ArrayOpened = true
may_begin _ = false

abbrev pub bracket_of : Level → ℕ
bracket_of Array = open_bracket
bracket_of Object = open_brace

abbrev pub end_of : Level → ℕ
end_of Array = close_bracket
end_of Object = close_brace

-- so many bytes were taken, and these are the mode and the levels after them
pub record Lands (count : ℕ) (mode : Mode) (levels : List Level) (old new : Reader) : Type 0 where
  pub limits : new.limits ≡ old.limits
  pub fault : new.fault ≡ old.fault
  pub offset : new.offset ≡ old.offset + count
  pub mode_is : new.mode ≡ mode
  pub levels_are : levels_in new.levels ≡ levels

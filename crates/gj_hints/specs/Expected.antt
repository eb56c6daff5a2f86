-- What may follow the bytes of a text, and what the words for it name.
use Rattle.std.specs.Prelude.{◌≡◌, ◌<◌, ◌↔◌, ℕ, Bool, true, false, ◌&&◌, ◌||◌, List, [], ◌∷◌, ◌++◌, length, IsTrue}
use Rattle.gj_json.specs.Limits.{Allowed}
use Rattle.gj_json.specs.Reader.{StandsFor, limits_of}
use Rattle.gj_json.specs.Refusal.{IsAdmitted}
use Rattle.gj_json.specs.Text.{IsViable, IsViableWithin}
use Rattle.gj_json.specs.Tree.{Text}
use Rattle.gj_json.specs.declared.fault.Cause.{Cause}
use Rattle.gj_json.specs.declared.fault.Cause.TheVariants.{Syntax, Truncated, Depth, Length}
use Rattle.gj_json.specs.declared.reader.Reader.{Reader}
use Rattle.gj_hints.specs.Choices.{has, is_white}
use Rattle.gj_hints.specs.declared.choice.TheConstants.{CHOICES}
use Rattle.gj_hints.specs.declared.choice.Choice.{Choice}
use Rattle.gj_hints.specs.declared.expected.Expected.{Expected}

-- the byte is one of a choice that is named
abbrev pub is_named_in : ℕ → List Choice → List Bool → Bool
is_named_in byte (choice ∷ choices) (is_named ∷ more) = (is_named && has choice byte) || is_named_in byte choices more
is_named_in byte _ _ = false

abbrev pub is_named : List Bool → ℕ → Bool
is_named named byte = is_named_in byte CHOICES named

-- a byte that is no white space is named if it can follow, and only then: some text begins with these bytes and it, however deep it nests
abbrev pub IsToldOf : List ℕ → List Bool → ℕ → Type 0
IsToldOf bytes named byte = is_white byte ≡ false → (IsTrue (is_named named byte)) ↔ IsViable (bytes ++ byte ∷ [])

-- the words tell of each byte whether it can follow these, and whether a text may end with these
pub record IsExpected (limits : Allowed) (bytes : List ℕ) (expected : Expected) : Type 0 where
  pub named : (byte : ℕ) → byte < 256 → IsToldOf bytes expected.named byte
  pub may_end : (IsTrue expected.may_end) ↔ ((text : Text) × IsAdmitted limits text bytes)

-- ---- by a reader

-- it was given these bytes, and took them all
pub record IsAfter (reader : Reader) (bytes : List ℕ) : Type 0 where
  pub stands : StandsFor reader bytes
  pub viable : IsViableWithin (limits_of reader).depth bytes
  pub few : length bytes < (limits_of reader).bytes

-- a byte that is refused for this cause could follow
abbrev pub allows : Cause → Bool
allows Syntax = false
allows Truncated = true
allows Depth = true
allows Length = true

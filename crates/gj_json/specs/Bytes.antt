-- The bytes that the grammar names, and white space (RFC 8259, section 2). Only here, and in the tables of `Characters`, is a
-- byte written as a number.
use Rattle.std.specs.Prelude.{◌≡◌, ℕ, ◌⊎◌, List, [], ◌∷◌}
pub use Rattle.gj_number.specs.Bytes.{minus_sign, zero_digit, nine_digit, comma, space, close_bracket, IsDigit}

-- the structural characters, with `close_bracket` and `comma`
abbrev pub open_bracket : ℕ
open_bracket = 91

abbrev pub open_brace : ℕ
open_brace = 123

abbrev pub close_brace : ℕ
close_brace = 125

abbrev pub colon : ℕ
colon = 58

-- white space, with `space`
abbrev pub tab : ℕ
tab = 9

abbrev pub line_feed : ℕ
line_feed = 10

abbrev pub carriage_return : ℕ
carriage_return = 13

abbrev pub IsWhite : ℕ → Type 0
IsWhite b = (b ≡ space) ⊎ (b ≡ tab) ⊎ (b ≡ line_feed) ⊎ (b ≡ carriage_return)

-- strings
abbrev pub quote : ℕ
quote = 34

abbrev pub backslash : ℕ
backslash = 92

-- the letter of an escape by a number
abbrev pub letter_u : ℕ
letter_u = 117

-- U+FEFF in UTF-8: a byte order mark
abbrev pub mark_bytes : List ℕ
mark_bytes = 0xEF ∷ 0xBB ∷ 0xBF ∷ []

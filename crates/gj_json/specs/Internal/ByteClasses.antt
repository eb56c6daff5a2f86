-- Which class of bytes a byte is of.
use Rattle.std.specs.Prelude.{◌⊎◌, ◌≡◌, ℕ, ◌==◌, ◌&&◌, if◌then◌else◌, nat_le}
use Rattle.gj_json.specs.Bytes.{open_bracket, close_bracket, open_brace, close_brace, comma as comma_byte, colon as colon_byte, quote as quote_byte, space, tab}
use Rattle.gj_json.specs.Bytes.{line_feed, carriage_return, minus_sign, zero_digit as zero, nine_digit, IsWhite, IsDigit}
use Rattle.gj_json.specs.Internal.NamedBytes.{letter_n, letter_t, letter_f}
use Rattle.gj_json.specs.declared.constant.Constant.{Constant}
use Rattle.gj_json.specs.declared.constant.Constant.TheVariants.{Null, True, False}
use Rattle.gj_json.specs.declared.class.Class.{Class}
use Rattle.gj_json.specs.declared.class.Class.TheVariants.{White as white, OpenArray as open_array, CloseArray as close_array, OpenObject as open_object}
use Rattle.gj_json.specs.declared.class.Class.TheVariants.{CloseObject as close_object, Comma as comma, Colon as colon, Quote as quote}
use Rattle.gj_json.specs.declared.class.Class.TheVariants.{NumberStart as number_start, Letter as letter, Other as other}

unfoldable pub class_of : ℕ → Class
class_of b =
    if nat_le zero b && nat_le b nine_digit then number_start else
    if b == space then white else
    if b == tab then white else
    if b == line_feed then white else
    if b == carriage_return then white else
    if b == open_bracket then open_array else
    if b == close_bracket then close_array else
    if b == open_brace then open_object else
    if b == close_brace then close_object else
    if b == comma_byte then comma else
    if b == colon_byte then colon else
    if b == quote_byte then quote else
    if b == minus_sign then number_start else
    if b == letter_n then letter Null else
    if b == letter_t then letter True else
    if b == letter_f then letter False else other

abbrev pub first_letter : Constant → ℕ
first_letter Null = letter_n
first_letter True = letter_t
first_letter False = letter_f

abbrev pub Means : Class → ℕ → Type 0
Means white b = IsWhite b
Means open_array b = b ≡ open_bracket
Means close_array b = b ≡ close_bracket
Means open_object b = b ≡ open_brace
Means close_object b = b ≡ close_brace
Means comma b = b ≡ comma_byte
Means colon b = b ≡ colon_byte
Means quote b = b ≡ quote_byte
Means number_start b = (b ≡ minus_sign) ⊎ IsDigit b
Means (letter which) b = b ≡ first_letter which
Means other b = Unit {0}

-- The words for the bytes that can follow in a text, and which bytes each means.
use Rattle.std.specs.Prelude.{ℕ, Bool, ◌||◌, List, nat_eq, get_or, codes}
use Rattle.gj_hints.specs.Encodings.{is_between}
use Rattle.gj_hints.specs.declared.choice.Choice.{Choice}
use Rattle.gj_hints.specs.declared.choice.Choice.TheVariants.{ValueOrMark, Value, Character, Escape, Name, Hexadecimal, Exactly}
use Rattle.gj_hints.specs.declared.choice.Choice.TheVariants.{Number, AfterZero, AfterPoint, Exponent, Digit, Continuation}

abbrev pub is_digit : ℕ → Bool
is_digit byte = is_between 48 57 byte

-- `e` or `E`
abbrev pub is_e : ℕ → Bool
is_e byte = nat_eq byte 101 || nat_eq byte 69

-- ", -, a digit, [, {, f, n or t
abbrev pub begins_value : ℕ → Bool
begins_value byte =
    nat_eq byte 34
    || (nat_eq byte 45
    || (is_digit byte || (nat_eq byte 91 || (nat_eq byte 123 || (nat_eq byte 102 || (nat_eq byte 110 || nat_eq byte 116))))))

-- ", \, /, b, f, n, r, t or u
abbrev pub follows_backslash : ℕ → Bool
follows_backslash byte =
    nat_eq byte 34
    || (nat_eq byte 92
    || (nat_eq byte 47
    || (nat_eq byte 98 || (nat_eq byte 102 || (nat_eq byte 110 || (nat_eq byte 114 || (nat_eq byte 116 || nat_eq byte 117)))))))

-- the bytes of each
abbrev pub has : Choice → ℕ → Bool
has ValueOrMark byte = begins_value byte || nat_eq byte 0xEF
has Value byte = begins_value byte
has Character byte = is_between 0x20 0x7F byte || is_between 0xC2 0xF4 byte
has Escape byte = follows_backslash byte
has Name byte = nat_eq byte 34
has Hexadecimal byte = is_digit byte || (is_between 65 70 byte || is_between 97 102 byte)
has (Exactly bytes) byte = nat_eq byte (get_or bytes 0 0)
has Number byte = is_digit byte || (nat_eq byte 46 || is_e byte)
has AfterZero byte = nat_eq byte 46 || is_e byte
has AfterPoint byte = is_digit byte || is_e byte
has Exponent byte = is_digit byte || (nat_eq byte 43 || nat_eq byte 45)
has Digit byte = is_digit byte
has (Continuation low high) byte = is_between low high byte

-- and its words
abbrev pub choice_text : Choice → List ℕ
choice_text ValueOrMark = codes "a value"
choice_text Value = codes "a value"
choice_text Character = codes "a character, an escape or \""
choice_text Escape = codes "one of \"\\/bfnrtu"
choice_text Name = codes "a name"
choice_text Hexadecimal = codes "a hexadecimal digit"
choice_text (Exactly bytes) = bytes
choice_text Number = codes "more of the number"
choice_text AfterZero = codes "more of the number"
choice_text AfterPoint = codes "more of the number"
choice_text Exponent = codes "a digit or a sign"
choice_text Digit = codes "a digit"
choice_text (Continuation low high) = codes "the next byte of a character in UTF-8"

-- white space (RFC 8259, section 2)
abbrev pub is_white : ℕ → Bool
is_white byte = nat_eq byte 32 || (nat_eq byte 9 || (nat_eq byte 10 || nat_eq byte 13))

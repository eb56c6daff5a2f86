-- Bytes that are no UTF-8, by those before a place and from it on.
use Rattle.std.specs.Prelude.{ℕ, ◌-◌, Bool, false, ◌||◌, ◌&&◌, List, [], ◌∷◌, length, get_or, nat_le}

abbrev pub is_between : ℕ → ℕ → ℕ → Bool
is_between low high byte = nat_le low byte && nat_le byte high

-- a byte that begins a character of so many bytes at least (RFC 3629, section 4)
abbrev pub begins_two : ℕ → Bool
begins_two byte = is_between 0xC2 0xF4 byte

abbrev pub begins_three : ℕ → Bool
begins_three byte = is_between 0xE0 0xF4 byte

abbrev pub begins_four : ℕ → Bool
begins_four byte = is_between 0xF0 0xF4 byte

abbrev pub goes_on : ℕ → Bool
goes_on byte = is_between 0x80 0xBF byte

-- the byte so many places before the end
abbrev pub from_end : ℕ → List ℕ → ℕ
from_end n bytes = get_or bytes (length bytes - n) 0

-- the bytes, which are UTF-8 so far, end inside a character
abbrev pub opens_character : List ℕ → Bool
opens_character before =
    begins_two (from_end 1 before)
    || ((begins_three (from_end 2 before) && goes_on (from_end 1 before))
    || (begins_four (from_end 3 before) && (goes_on (from_end 2 before) && goes_on (from_end 1 before))))

abbrev pub begins_no_character : ℕ → Bool
begins_no_character byte = is_between 0x80 0xC1 byte || is_between 0xF5 0xFF byte

abbrev pub is_other_encoding : List ℕ → List ℕ → Bool
is_other_encoding before [] = false
is_other_encoding before (byte ∷ more) = opens_character before || begins_no_character byte

-- The part of a line around a place, as a terminal shows it.
use Rattle.std.specs.Prelude.{ℕ, ◌-◌, ◌++◌, List, [], ◌∷◌, length, take, drop, map, chars, codes, get_or, Bool, ◌&&◌, ◌||◌, nat_eq}
use Rattle.std.specs.Prelude.{nat_le, nat_lt, if◌then◌else◌}
use Rattle.std.specs.Str.Lossy.{utf8_lossy}
use Rattle.gj_places.specs.Lines.{is_line_feed, last_line}

-- the last of a list, so many at most
abbrev pub last_of : ℕ → List ℕ → List ℕ
last_of n items = drop (length items - n) items

-- the bytes before the first LF, or all where there is none
abbrev pub first_line : List ℕ → List ℕ
first_line [] = []
first_line (byte ∷ more) = if is_line_feed byte then [] else byte ∷ first_line more

-- without a CR at the end
abbrev pub without_return : List ℕ → List ℕ
without_return bytes = if nat_eq (get_or bytes (length bytes - 1) 0) 13 then take (length bytes - 1) bytes else bytes

abbrev pub is_between : ℕ → ℕ → ℕ → Bool
is_between low high c = nat_le low c && nat_le c high

-- controls, marks of the direction of writing, separators of lines and characters without width
abbrev pub is_harmful : ℕ → Bool
is_harmful c =
    nat_lt c 32 || (is_between 0x7F 0x9F c || (nat_eq c 0x61C || (is_between 0x200B 0x200F c
    || (is_between 0x2028 0x202E c || (is_between 0x2060 0x2069 c || nat_eq c 0xFEFF)))))

-- what is shown for a character
abbrev pub harmless : ℕ → ℕ
harmless c = if nat_eq c 9 then 32 else if is_harmful c then 0xFFFD else c

-- the characters of bytes, with U+FFFD for what is no UTF-8
abbrev pub characters_of : List ℕ → List ℕ
characters_of bytes = map harmless (chars (utf8_lossy bytes))

-- of more than 50 characters the last, or the first, and three dots for the others
abbrev pub cut_front : List ℕ → List ℕ
cut_front shown = (if nat_lt 50 (length shown) then codes "..." else []) ++ last_of 50 shown

abbrev pub cut_back : List ℕ → List ℕ
cut_back shown = if nat_lt 50 (length shown) then take 50 shown ++ codes "..." else shown

-- What is shown of the line before the place, and from it on, by at most 256 bytes of each.
abbrev pub front_of : List ℕ → List ℕ
front_of before = cut_front (characters_of (last_of 256 (last_line before)))

abbrev pub rest_of : List ℕ → List ℕ
rest_of after = cut_back (characters_of (without_return (take 256 (first_line after))))

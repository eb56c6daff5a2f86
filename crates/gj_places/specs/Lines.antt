-- The line and the column of the place after some bytes, as editors and compilers count them.
use Rattle.std.specs.Prelude.{ℕ, ◌+◌, ◌||◌, List, [], ◌∷◌, Bool, false, not, nat_eq, nat_le, ◌&&◌, if◌then◌else◌}

abbrev pub is_line_feed : ℕ → Bool
is_line_feed byte = nat_eq byte 10

-- a character begins with each byte but the continuation bytes of UTF-8, 80 to BF
abbrev pub begins_character : ℕ → Bool
begins_character byte = not (nat_le 128 byte && nat_le byte 191)

-- 1 for an LF, and 0 for another byte
abbrev pub counted_byte : ℕ → ℕ
counted_byte byte = if is_line_feed byte then 1 else 0

-- how many bytes of a list are LF
abbrev pub line_feeds : List ℕ → ℕ
line_feeds [] = 0
line_feeds (byte ∷ more) = counted_byte byte + line_feeds more

-- how many characters begin in a list
abbrev pub characters : List ℕ → ℕ
characters [] = 0
characters (byte ∷ more) = (if begins_character byte then 1 else 0) + characters more

abbrev pub has_line_feed : List ℕ → Bool
has_line_feed [] = false
has_line_feed (byte ∷ more) = is_line_feed byte || has_line_feed more

-- the bytes after the last LF, or all where there is none
abbrev pub last_line : List ℕ → List ℕ
last_line [] = []
last_line (byte ∷ more) = if has_line_feed (byte ∷ more) then last_line more else byte ∷ more

-- The line and the column of the place after the bytes, each from 1.
abbrev pub line_of : List ℕ → ℕ
line_of bytes = line_feeds bytes + 1

abbrev pub column_of : List ℕ → ℕ
column_of bytes = characters (last_line bytes) + 1

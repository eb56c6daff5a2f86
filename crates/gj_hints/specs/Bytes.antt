-- Bytes at the ends of others, and within them.
use Rattle.std.specs.Prelude.{ℕ, ◌-◌, Bool, false, not, ◌||◌, List, [], ◌∷◌, length, take, drop, Option, Some, None, nat_eq, slice_get, if◌then◌else◌}
use Rattle.std.specs.Char.{is_ascii_whitespace}
use Rattle.std.specs.List.{starts_with, prefix_len, suffix_len, list_any}
use Rattle.gj_hints.specs.declared.bytes.TheConstants.{MARK}

abbrev pub begins : List ℕ → List ℕ → Bool
begins bytes front = starts_with nat_eq bytes front

-- the part stands somewhere in the bytes
unfoldable pub holds : List ℕ → List ℕ → Bool
holds [] part = begins [] part
holds (byte ∷ bytes) part = begins (byte ∷ bytes) part || holds bytes part

-- ---- at their start

abbrev pub first_byte : List ℕ → Option ℕ
first_byte bytes = slice_get bytes 0

abbrev pub second_byte : List ℕ → Option ℕ
second_byte bytes = slice_get bytes 1

abbrev pub without_mark : List ℕ → List ℕ
without_mark head = if begins head MARK then drop 3 head else head

abbrev pub without_white : List ℕ → List ℕ
without_white bytes = drop (prefix_len is_ascii_whitespace bytes) bytes

-- ---- at their end

abbrev pub last_byte : List ℕ → Option ℕ
last_byte bytes = slice_get bytes (length bytes - 1)

abbrev pub without_last : List ℕ → List ℕ
without_last bytes = take (length bytes - 1) bytes

abbrev pub without_white_behind : List ℕ → List ℕ
without_white_behind bytes = take (length bytes - suffix_len is_ascii_whitespace bytes) bytes

-- ---- sets of bytes

abbrev pub is_one_of : List ℕ → ℕ → Bool
is_one_of set byte = list_any (λ other. nat_eq other byte) set

abbrev pub is_in : List ℕ → Option ℕ → Bool
is_in set (Some byte) = is_one_of set byte
is_in set None = false

abbrev pub has_one_of : List ℕ → List ℕ → Bool
has_one_of bytes set = list_any (is_one_of set) bytes

abbrev pub is_before : List ℕ → ℕ → Bool
is_before set byte = not (is_one_of set byte)

-- the bytes before the first one of the set
abbrev pub until : List ℕ → List ℕ → List ℕ
until bytes set = take (prefix_len (is_before set) bytes) bytes

-- What is shown of a name: the text that it is, but for harmful characters, what is no UTF-8, and what begins a command.
use Rattle.std.specs.Prelude.{ℕ, zero, suc, ◌/◌, ◌%◌, List, [], ◌∷◌, ◌++◌, length, take, drop, get_or, codes, chars, encode_utf8, if◌then◌else◌}
use Rattle.std.specs.Prelude.{Bool, false, ◌||◌, nat_eq}
use Rattle.gj_places.specs.Excerpts.{is_harmful}
use Rattle.std.specs.List.{flat_map}
use Rattle.serde_json.specs.Data.{string}
use Rattle.serde_json.specs.Written.{compact_text}
use Rattle.std.specs.Str.Lossy.{utf8_lossy, utf8_valid_len, utf8_invalid_len, after_first_chunk}

-- the digit of a number
abbrev pub digit_in : List ℕ → ℕ → ℕ
digit_in digits number = get_or digits number 0

-- the number of a byte, as \x0a
unfoldable pub by_number : ℕ → List ℕ
by_number byte = codes "\\x" ++ (digit_in (codes "0123456789abcdef") (byte / 16) ∷ digit_in (codes "0123456789abcdef") (byte % 16) ∷ [])

abbrev pub shown_char : ℕ → List ℕ
shown_char c = if is_harmful c then flat_map by_number (encode_utf8 c) else encode_utf8 c

unfoldable pub shown_text : List ℕ → List ℕ
shown_text text = flat_map shown_char (chars text)

-- the longest text at the start, and the bytes after it that are none
abbrev pub valid_front : List ℕ → List ℕ
valid_front name = take (utf8_valid_len name) name

abbrev pub first_invalid : List ℕ → List ℕ
first_invalid name = let rest = drop (utf8_valid_len name) name in take (utf8_invalid_len rest) rest

-- of a name with so many parts at most, each a text and what is none after it
abbrev pub shown_within : ℕ → List ℕ → List ℕ
shown_within zero name = []
shown_within (suc most) name = shown_text (valid_front name) ++ (flat_map by_number (first_invalid name) ++ shown_within most (after_first_chunk name))

unfoldable pub shown_bytes : List ℕ → List ℕ
shown_bytes name = shown_within (length name) name

-- A runner of jobs obeys lines that begin with :: or ##, and passes over spaces before them.
abbrev pub begins_command : List ℕ → Bool
begins_command [] = false
begins_command (byte ∷ more) = nat_eq byte 32 || (nat_eq byte 35 || nat_eq byte 58)

-- the first byte of such a name by its number
unfoldable pub shown_name : List ℕ → List ℕ
shown_name name = if begins_command name then by_number (get_or name 0 0) ++ shown_bytes (drop 1 name) else shown_bytes name

-- the text of the JSON value that is this string, where U+FFFD stands for each part that is no UTF-8
unfoldable pub in_json : List ℕ → List ℕ
in_json text = compact_text (string (utf8_lossy text))

-- what is said on standard error of a file that could not be opened or read
unfoldable pub unread_line : List ℕ → List ℕ → List ℕ
unread_line name reason = codes "geolint-files: " ++ (shown_name name ++ (codes ": " ++ (reason ++ codes "\n")))

-- Where a value ends that is no array and no object, by its bytes: a string at its quote, another value before white space, a
-- comma or a bracket.
use Rattle.std.specs.Prelude.{ℕ, suc, Bool, true, false, ◌||◌, ◌==◌, if◌then◌else◌, List, [], ◌∷◌}
use Rattle.gj_json.specs.Bytes.{space, tab, line_feed, carriage_return, comma, close_bracket, quote, backslash}
use Rattle.gj_split.specs.declared.scan.Scan.{Scan}

-- the byte after a number, or after `null`, `true` or `false`, in an array
abbrev pub ends_word : ℕ → Bool
ends_word b = b == space || (b == tab || (b == line_feed || (b == carriage_return || (b == comma || b == close_bracket))))

abbrev pub word_next : ℕ → Scan
word_next b = if ends_word b then Scan.Past else Scan.Word

-- what was seen of the value after one byte more
abbrev pub scan_next : Scan → ℕ → Scan
scan_next Scan.Start b = if b == quote then Scan.Text else word_next b
scan_next Scan.Word b = word_next b
scan_next Scan.Text b = if b == quote then Scan.Closed else (if b == backslash then Scan.Escape else Scan.Text)
scan_next Scan.Escape b = Scan.Text
scan_next Scan.Closed b = Scan.Closed
scan_next Scan.Past b = Scan.Past

-- how many bytes belong to the value: those of the rest follow the one that was seen last
abbrev pub count_after : Scan → ℕ → ℕ
count_after Scan.Closed rest = 1
count_after Scan.Past rest = 0
count_after scan rest = suc rest

abbrev pub scan_length : Scan → List ℕ → ℕ
scan_length scan [] = 0
scan_length scan (b ∷ more) = count_after (scan_next scan b) (scan_length (scan_next scan b) more)

-- and where the value may have ended already
abbrev pub rest_length : Scan → List ℕ → ℕ
rest_length Scan.Closed rest = 0
rest_length Scan.Past rest = 0
rest_length scan rest = scan_length scan rest

-- the value has not ended
abbrev pub is_running : Scan → Bool
is_running Scan.Closed = false
is_running Scan.Past = false
is_running scan = true

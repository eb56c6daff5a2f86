-- Runs of the bytes of a string that stand there unescaped (RFC 8259, section 7), and the whole characters at their start.
use Rattle.std.specs.Prelude.{ℕ, ◌-◌, ◌≤◌, ◌==◌, ◌&&◌, Bool, not, nat_le, min, List, length, take}
use Rattle.std.specs.List.{prefix_len}
use Rattle.std.specs.Str.{IsUtf8}
use Rattle.gj_json.specs.Bytes.{space, quote, backslash}
use Rattle.gj_json.specs.Limits.{Allowed}

-- no control character, no quote and no backslash; a byte from 80 (hexadecimal) on is a part of a character
abbrev pub is_unescaped : ℕ → Bool
is_unescaped b = nat_le space b && not (b == quote) && not (b == backslash)

-- how many such bytes stand at the start of a piece
abbrev pub plain_run_of : List ℕ → ℕ
plain_run_of piece = prefix_len is_unescaped piece

-- as above, of no more bytes than are still allowed after those that were taken
abbrev pub run_allowed : Allowed → List ℕ → List ℕ → ℕ
run_allowed limits taken piece = min (plain_run_of piece) (limits.bytes - length taken)

-- the first k of these bytes are UTF-8 (RFC 3629), and no longer prefix of them is
pub record IsLongestUtf8 (bytes : List ℕ) (k : ℕ) : Type 0 where
  pub within : k ≤ length bytes
  pub utf8 : IsUtf8 (take k bytes)
  pub longest : (n : ℕ) → n ≤ length bytes → IsUtf8 (take n bytes) → n ≤ k

-- The first byte of a character of two bytes. It may stand where a string or a name is open, and no character is under way
-- in it, and nowhere else.
abbrev pub character_byte : ℕ
character_byte = 0xC2

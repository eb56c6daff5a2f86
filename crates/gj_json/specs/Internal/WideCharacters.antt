-- Unescaped characters of up to three bytes (RFC 3629, section 4), seen at each byte with the one before and the one after it.
use Rattle.std.specs.Prelude.{ℕ, ◌+◌, ◌-◌, ◌/◌, ◌<◌, ◌≡◌, ◌==◌, ◌&&◌, ◌||◌, if◌then◌else◌, bit_and, bit_or, Bool, true, false, not, nat_lt, nat_le, List, []}
use Rattle.std.specs.Prelude.{◌∷◌, get_or}
use Rattle.gj_json.specs.Bytes.{space, quote, backslash}
use Rattle.gj_json.specs.declared.wide.TheConstants.{LOWER, UPPER}

-- a byte of a character, but not its first
abbrev pub is_tail : ℕ → Bool
is_tail b = nat_le 0x80 b && nat_le b 0xBF

-- a byte of no such character, or of one of four bytes
abbrev pub is_stop : ℕ → Bool
is_stop b = b == quote || b == backslash || nat_lt b space || nat_le 0xF0 b || b == 0xC0 || b == 0xC1

-- a first byte of several bytes, or the one after a first byte of three
abbrev pub goes_on : ℕ → ℕ → Bool
goes_on before here = nat_le 0xC2 here || nat_le 0xE0 before

-- after some first bytes fewer bytes may stand
abbrev pub is_narrow : ℕ → ℕ → Bool
is_narrow here next = here == 0xE0 && nat_lt next 0xA0 || here == 0xED && nat_le 0xA0 next

-- such characters end at this byte, or it is followed by one that no character has there
abbrev pub ends_at : ℕ → ℕ → ℕ → Bool
ends_at before here next = is_stop here || (goes_on before here && not (is_tail next) || not (goes_on before here) && is_tail next) || is_narrow here next

-- as above, at each of some bytes
abbrev pub ends_of : List ℕ → List ℕ → List ℕ → List Bool
ends_of (p ∷ before) (a ∷ here) (b ∷ next) = ends_at p a b ∷ ends_of before here next
ends_of _ _ _ = []

-- what the tables say of a byte by its halves: of each kind one bit, 64 for one after which its character goes on
abbrev pub lower_of : ℕ → ℕ
lower_of b = get_or LOWER (bit_and b 15) 0

abbrev pub upper_of : ℕ → ℕ
upper_of b = get_or UPPER (b / 16) 0

-- after the first byte of three the second goes on
abbrev pub kind_at : ℕ → ℕ → ℕ
kind_at before here = if nat_le 0xE0 before then bit_or (bit_and (bit_and (lower_of here) (upper_of here)) 127) 64 else bit_and (lower_of here) (upper_of here)

abbrev pub kinds_of : List ℕ → List ℕ → List ℕ
kinds_of (p ∷ before) (a ∷ here) = kind_at p a ∷ kinds_of before here
kinds_of _ _ = []

-- at the byte of this index
abbrev pub EndsThere : List ℕ → ℕ → Type 0
EndsThere piece i = ends_at (get_or piece (i - 1) 0) (get_or piece i 0) (get_or piece (i + 1) 0) ≡ true

-- at none of these bytes, of which the first is after the first of the piece
abbrev pub NoneEnds : List ℕ → ℕ → Type 0
NoneEnds piece count = (i : ℕ) → i + 1 < count → ends_at (get_or piece i 0) (get_or piece (i + 1) 0) (get_or piece (i + 2) 0) ≡ false

-- The characters of a string, and their spelling: by themselves, in UTF-8 or escaped (RFC 8259, section 7; RFC 3629, section 4).
use Rattle.std.specs.Prelude.{◌-◌, ◌*◌, ◌==◌, ◌&&◌, if◌then◌else◌, nat_le, Option, Some, None, ◌≡◌, ℕ, ◌+◌, ◌≤◌, ◌≢◌, ◌⊎◌, List, [], ◌∷◌, ◌++◌, codes}
use Rattle.std.specs.Char.{IsScalar, encode_utf8}
use Rattle.gj_json.specs.Bytes.{space, quote, backslash, line_feed, carriage_return, tab}

-- a byte of a string that is a character by itself
abbrev pub IsPlain : ℕ → Type 0
IsPlain b = (space ≤ b) × (b ≤ 0x7F) × (b ≢ quote) × (b ≢ backslash)

-- the character that a short escape means, by the byte after its backslash: / and the letters b, f, n, r and t among them
unfoldable pub escape_of : ℕ → Option ℕ
escape_of e =
    if e == quote then Some quote else
    if e == backslash then Some backslash else
    if e == 0x2F then Some 0x2F else
    if e == 0x62 then Some 0x08 else
    if e == 0x66 then Some 0x0C else
    if e == 0x6E then Some line_feed else
    if e == 0x72 then Some carriage_return else
    if e == 0x74 then Some tab else None

-- the value of a hexadecimal digit: 0 to 9, A to F, a to f
unfoldable pub hex_of : ℕ → Option ℕ
hex_of b =
    if nat_le 0x30 b && nat_le b 0x39 then Some (b - 0x30) else
    if nat_le 0x41 b && nat_le b 0x46 then Some (b - 0x41 + 10) else
    if nat_le 0x61 b && nat_le b 0x66 then Some (b - 0x61 + 10) else None

abbrev pub IsEscaped : ℕ → List ℕ → Type 0
IsEscaped c bytes = (e : ℕ) × (bytes ≡ backslash ∷ e ∷ []) × (escape_of e ≡ Some c)

-- \u and four hexadecimal digits: the number that they write. A surrogate stays a character of its own.
abbrev pub IsUnicode : ℕ → List ℕ → Type 0
IsUnicode c bytes =
    (b0 : ℕ) × (b1 : ℕ) × (b2 : ℕ) × (b3 : ℕ) × (d0 : ℕ) × (d1 : ℕ) × (d2 : ℕ) × (d3 : ℕ) × (bytes ≡ codes "\\u" ++ (b0 ∷ b1 ∷ b2 ∷ b3 ∷ []))
    × (hex_of b0 ≡ Some d0) × (hex_of b1 ≡ Some d1) × (hex_of b2 ≡ Some d2) × (hex_of b3 ≡ Some d3) × (c ≡ ((d0 * 16 + d1) * 16 + d2) * 16 + d3)

-- a Unicode scalar value beyond ASCII, in UTF-8: a character of several bytes
abbrev pub IsUtf8 : ℕ → List ℕ → Type 0
IsUtf8 c bytes = IsScalar c × (0x80 ≤ c) × (bytes ≡ encode_utf8 c)

-- one character of a string
abbrev pub SpellsCharacter : ℕ → List ℕ → Type 0
SpellsCharacter c bytes = (IsPlain c × (bytes ≡ c ∷ [])) ⊎ IsEscaped c bytes ⊎ IsUnicode c bytes ⊎ IsUtf8 c bytes

-- what stands between the quotes
abbrev pub SpellsContent : List ℕ → List ℕ → Type 0
SpellsContent [] bytes = bytes ≡ []
SpellsContent (c ∷ content) bytes = (first : List ℕ) × (rest : List ℕ) × (bytes ≡ first ++ rest) × SpellsCharacter c first × SpellsContent content rest

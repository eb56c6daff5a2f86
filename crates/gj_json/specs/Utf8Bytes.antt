-- What the first byte of a character of several bytes says of those after it (RFC 3629, section 4), for a text that is broken off
-- in one. That whole characters of these bytes are those of `Characters` is proved.
use Rattle.std.specs.Prelude.{◌-◌, ◌==◌, if◌then◌else◌, nat_le, Option, Some, None, ℕ}
use Rattle.gj_json.specs.declared.mode.Bounds.{Bounds}
use Rattle.gj_json.specs.declared.mode.Bounds.TheVariants.{Any, AfterE0, AfterED, AfterF0, AfterF4}

-- how many bytes follow the second, which the second may be, and the bits so far. The bounds of the second byte keep out longer
-- forms than needed, surrogates and what lies past U+10FFFF.
pub record Lead : Type 0 where
  pub more : ℕ
  pub bounds : Bounds
  pub value : ℕ

abbrev pub lead : ℕ → Bounds → ℕ → Option Lead
lead more bounds value = Some (record { more = more; bounds = bounds; value = value })

abbrev pub low_of : Bounds → ℕ
low_of Any = 0x80
low_of AfterE0 = 0xA0
low_of AfterED = 0x80
low_of AfterF0 = 0x90
low_of AfterF4 = 0x80

abbrev pub high_of : Bounds → ℕ
high_of Any = 0xBF
high_of AfterE0 = 0xBF
high_of AfterED = 0x9F
high_of AfterF0 = 0xBF
high_of AfterF4 = 0x8F

unfoldable pub lead_of : ℕ → Option Lead
lead_of b =
    if nat_le b 0xC1 then None else
    if nat_le b 0xDF then lead 0 Any (b - 0xC0) else
    if b == 0xE0 then lead 1 AfterE0 0 else
    if nat_le b 0xEC then lead 1 Any (b - 0xE0) else
    if b == 0xED then lead 1 AfterED 13 else
    if nat_le b 0xEF then lead 1 Any (b - 0xE0) else
    if b == 0xF0 then lead 2 AfterF0 0 else
    if nat_le b 0xF3 then lead 2 Any (b - 0xF0) else
    if b == 0xF4 then lead 2 AfterF4 4 else None

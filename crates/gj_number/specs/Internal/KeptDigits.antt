-- What the kept digits say of a number.
use Rattle.std.specs.Prelude.{ℕ}
use Rattle.gj_number.specs.declared.digits.Digits.{Digits}
use Rattle.gj_number.specs.Internal.KeptParts.{IsKept, AddsOne}

-- these are the digits of this number, of which so many stand after the point
abbrev pub Keeps : Digits → ℕ → ℕ → Type 0
Keeps d whole fraction = IsKept d.all d.count d.pending d.places whole fraction

-- new is old with a digit that is no zero
abbrev pub AddsDigit : Digits → Digits → ℕ → Type 0
AddsDigit old new digit = AddsOne old.all old.count old.pending digit new.all new.count new.pending

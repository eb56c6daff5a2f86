-- What a `Warnings` stands for: a list of warnings, of which it says how many there are of each kind, and the least place.
use Rattle.std.specs.Prelude.{◌≡◌, List}
use Rattle.gj_coords.specs.declared.warnings.Warnings.{Warnings}
use Rattle.gj_coords.specs.Warnings.{Warning}
use Rattle.gj_coords.specs.Internal.KeptWarnings.{warnings_of}

-- What it says is internal: a caller needs that `none` stands for no warning, that each call keeps it, and what `count`, `first`
-- and `is_empty` then answer of the list.
abbrev pub StandsFor : Warnings → List Warning → Type 0
StandsFor self warnings = self ≡ warnings_of warnings

-- What a `Warnings` says: of each kind how many warnings there are, and the least place. Each one says that of some list of warnings.
use Rattle.std.specs.Prelude.{◌≡◌, ◌≤◌, List}
use Rattle.gj_coords.specs.declared.kind.Kind.{Kind}
use Rattle.gj_coords.specs.declared.warnings.Warnings.{Warnings}
use Rattle.gj_coords.specs.Warnings.{Warning, greatest_count, count_of, first_of}
use Rattle.gj_coords.specs.Internal.KeptWarnings.{count_in, first_in}

-- what it says is right of this list
abbrev pub Tells : Warnings → List Warning → Type 0
Tells told warnings = (kind : Kind) → (count_in kind told ≡ count_of kind warnings) × (first_in kind told ≡ first_of kind warnings)

-- each count is one that 32 bits hold, as those of every value of the program
abbrev pub CountsFit : Warnings → Type 0
CountsFit told = (kind : Kind) → count_in kind told ≤ greatest_count

-- Warnings as they are gathered, which are nothing where there are none.
use Rattle.std.specs.Prelude.{ℕ, Bool, if◌then◌else◌, Option, Some, None}
use Rattle.gj_coords.specs.declared.kind.Kind.{Kind}
use Rattle.gj_coords.specs.declared.kind_warnings.KindWarnings.{KindWarnings}
use Rattle.gj_coords.specs.declared.warned.Warned.{Warned}
use Rattle.gj_coords.specs.declared.warnings.Warnings.{Warnings}
use Rattle.gj_coords.specs.Internal.KeptWarnings.{no_warnings, joined, added, with_noted}

abbrev pub no_warned : Warned
no_warned = record { warnings = None }

abbrev pub warnings_in : Option Warnings → Warnings
warnings_in None = no_warnings
warnings_in (Some warnings) = warnings

-- all of them
abbrev pub all_in : Warned → Warnings
all_in w = warnings_in w.warnings

-- one warning more
abbrev pub noted_in : Warned → Kind → ℕ → Warned
noted_in w kind place = record { warnings = Some (added (all_in w) kind place) }

-- one warning more, where there is one
abbrev pub noted_when : Bool → Warned → Kind → ℕ → Warned
noted_when wrong w kind place = if wrong then noted_in w kind place else w

-- some warnings of a kind more
abbrev pub all_noted_in : Warned → Kind → KindWarnings → Warned
all_noted_in w kind noted = record { warnings = Some (with_noted (all_in w) kind noted) }

-- some warnings of a kind more, where there are any
abbrev pub some_noted : Bool → Warned → Kind → KindWarnings → Warned
some_noted none w kind noted = if none then w else all_noted_in w kind noted

-- those of another
abbrev pub taken_all : Warned → Warnings → Warned
taken_all w others = record { warnings = Some (joined (all_in w) others) }

abbrev pub taken_some : Warned → Option Warnings → Warned
taken_some w None = w
taken_some w (Some others) = taken_all w others

abbrev pub taken : Warned → Warned → Warned
taken w other = taken_some w other.warnings

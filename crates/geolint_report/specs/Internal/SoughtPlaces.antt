-- The places of a list that are sought: the greatest `u64` stands for none.
use Rattle.std.specs.Prelude.{◌-◌, ◌^◌, ℕ, Bool, not, nat_eq, unwrap_or}
use Rattle.gj_coords.specs.declared.kind.Kind.{Kind}
use Rattle.gj_coords.specs.declared.warnings.Warnings.{Warnings}
use Rattle.gj_coords.specs.Internal.KeptWarnings.{first_in}

abbrev pub is_sought : ℕ → Bool
is_sought place = not (nat_eq place (2 ^ 64 - 1))

abbrev pub first_or_none : Kind → Warnings → ℕ
first_or_none kind warnings = unwrap_or (first_in kind warnings) (2 ^ 64 - 1)

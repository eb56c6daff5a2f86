-- The count of an array's elements, which stops where no rule asks further.
use Rattle.std.specs.Prelude.{ℕ, suc, Option, Some, None, nat_lt, if◌then◌else◌}
use Rattle.gj_coords.specs.declared.fault.Fault.{Fault}
use Rattle.gj_coords.specs.declared.fault.Rule.{Rule}
use Rattle.gj_coords.specs.declared.fault.Rule.TheVariants.{G13}
use Rattle.gj_coords.specs.declared.tally.Tally.{Tally}
use Rattle.gj_coords.specs.Fault.{fault_at, lesser}

abbrev pub tally_at : ℕ → Tally
tally_at place = record { place = place; count = 0 }

abbrev pub one_counted : ℕ → ℕ
one_counted n = if nat_lt n 4 then suc n else n

abbrev pub counted : Tally → Tally
counted t = record { place = t.place; count = one_counted t.count }

abbrev pub few_in : ℕ → Rule → Tally → Option Fault
few_in needed rule t = if nat_lt t.count needed then Some (fault_at t.place rule) else None

-- the least fault of a line whose positions have this least fault
abbrev pub line_closed : Tally → Option Fault → Option Fault
line_closed t positions = lesser (few_in 2 G13 t) positions

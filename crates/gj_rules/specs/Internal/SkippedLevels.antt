-- How many levels of a value without a role can be counted.
use Rattle.std.specs.Prelude.{ℕ, ◌-◌, ◌^◌}

abbrev pub most_skipped : ℕ
most_skipped = 2 ^ 16 - 1

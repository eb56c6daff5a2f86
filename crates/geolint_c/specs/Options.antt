-- The limits that a host means: 0 stands for the most that can be.
use Rattle.std.specs.Prelude.{ℕ, ◌^◌, nat_eq, if◌then◌else◌}
use Rattle.gj_json.specs.Limits.{Allowed, IsAllowed}
use Rattle.gj_json.specs.declared.limits.TheConstants.{MOST_LEVELS}

abbrev pub or_most : ℕ → ℕ → ℕ
or_most said most = if nat_eq said 0 then most else said

abbrev pub limits_meant : ℕ → ℕ → Allowed
limits_meant max_depth max_bytes = record { depth = or_most max_depth MOST_LEVELS; bytes = or_most max_bytes (2 ^ 60) }

-- the limits that it means are allowed
abbrev pub AreAllowed : ℕ → ℕ → Type 0
AreAllowed max_depth max_bytes = IsAllowed (or_most max_depth MOST_LEVELS) (or_most max_bytes (2 ^ 60))

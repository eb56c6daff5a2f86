-- What a linter of a run stands for.
use Rattle.std.specs.Prelude.{◌≡◌, ℕ, ◌≤◌, List, ◌++◌}
use Rattle.gj_json.specs.Limits.{Allowed}
use Rattle.gj_rules.specs.FeatureLinter.{StandsFor as LinterStandsFor, limits_of as linter_limits, offset_of}
use Rattle.gj_join.specs.declared.run_linter.RunLinter.{RunLinter}
use Rattle.gj_join.specs.Runs.{stand_at}
use Rattle.gj_join.specs.Internal.Totals.{IsTotalOf}

-- The linter may have been fed these bytes after that place. What it says is internal: a caller needs that `new` stands for no
-- bytes, and that each call keeps it.
unfoldable pub StandsFor : RunLinter → ℕ → List ℕ → Type 0
StandsFor run begin bytes =
    (run.begin ≡ begin) × (15 ≤ begin) × (begin ≤ offset_of run.linter) × LinterStandsFor IsTotalOf run.linter (stand_at begin ++ bytes)

-- what it checks under
abbrev pub limits_of : RunLinter → Allowed
limits_of run = linter_limits run.linter

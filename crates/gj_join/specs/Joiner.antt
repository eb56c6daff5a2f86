-- What a joiner stands for.
use Rattle.std.specs.Prelude.{ℕ, List, Option}
use Rattle.gj_json.specs.declared.fault.JsonFault.{JsonFault}
use Rattle.gj_json.specs.Limits.{Allowed}
use Rattle.gj_rules.specs.FeatureLinter.{StandsFor, limits_of as linter_limits, refusal_of as linter_refusal, offset_of as linter_offset}
use Rattle.gj_join.specs.declared.joiner.Joiner.{Joiner}
use Rattle.gj_join.specs.Internal.PassedRuns.{Joined, Tells}

-- what it checks under
abbrev pub limits_of : Joiner → Allowed
limits_of joiner = linter_limits joiner.linter

-- the refusal, once there was one
abbrev pub refusal_of : Joiner → Option JsonFault
refusal_of joiner = linter_refusal joiner.linter

-- how many bytes it stands after
abbrev pub offset_of : Joiner → ℕ
offset_of joiner = linter_offset joiner.linter

-- The joiner may have been given these bytes: fed, refused ones among them, or passed over in a run. What it says is internal: a
-- caller needs that `new` stands for no bytes, and that each call keeps it.
unfoldable pub Joins : Joiner → List ℕ → Type 0
Joins joiner bytes = (white : List ℕ) × StandsFor Tells joiner.linter white
    × Joined (limits_of joiner) (refusal_of joiner) joiner.warnings joiner.is_after white bytes

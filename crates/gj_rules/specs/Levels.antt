-- How deep the arrays and objects of a text may nest, so that the rules say something of it.
use Rattle.std.specs.Prelude.{ℕ, ◌-◌, ◌*◌}
use Rattle.gj_json.specs.declared.limits.TheConstants.{MOST_LEVELS}

abbrev pub most_levels : ℕ
most_levels = MOST_LEVELS

-- how deep they may nest for so many frames: at most every second one is an object with a role, and one
abbrev pub levels_within : ℕ → ℕ
levels_within frames = 2 * (frames - 1)

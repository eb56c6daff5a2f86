-- The levels that words of bits keep, the innermost first.
use Rattle.std.specs.Prelude.{ℕ, zero, suc, ◌%◌, ◌/◌, List, [], ◌∷◌, ◌++◌, get_or, Option, Some, None}
use Rattle.gj_json.specs.declared.levels.Level.{Level}
use Rattle.gj_json.specs.declared.levels.Level.TheVariants.{Array, Object}
use Rattle.gj_json.specs.declared.levels.Levels.{Levels}
use Rattle.gj_json.specs.declared.levels.TheConstants.{WORD}

abbrev pub level_of : ℕ → Level
level_of zero = Array
level_of (suc bit) = Object

abbrev pub bit_of : Level → ℕ
bit_of Array = 0
bit_of Object = 1

abbrev pub levels_at : ℕ → ℕ → List Level
levels_at zero bits = []
levels_at (suc count) bits = level_of (bits % 2) ∷ levels_at count (bits / 2)

-- the levels of the first n words, which are full: those of the last one innermost
abbrev pub full_levels : ℕ → List ℕ → List Level
full_levels zero words = []
full_levels (suc n) words = levels_at WORD (get_or words n 0) ++ full_levels n words

unfoldable pub levels_in : Levels → List Level
levels_in levels = levels_at levels.count levels.inner ++ full_levels levels.full levels.outer

-- the innermost level, and those around it
abbrev pub inner_of : List Level → Option Level
inner_of [] = None
inner_of (level ∷ levels) = Some level

abbrev pub outer_of : List Level → List Level
outer_of [] = []
outer_of (level ∷ levels) = levels

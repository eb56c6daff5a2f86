-- More bytes by their names: the letters of `null`, `true` and `false`, and a byte order mark's three.
use Rattle.std.specs.Prelude.{ℕ, List, [], ◌∷◌}

abbrev pub letter_n : ℕ
letter_n = 110

abbrev pub letter_t : ℕ
letter_t = 116

abbrev pub letter_f : ℕ
letter_f = 102

-- the rest of each, after its first letter
abbrev pub after_n : List ℕ
after_n = 117 ∷ 108 ∷ 108 ∷ []

abbrev pub after_t : List ℕ
after_t = 114 ∷ 117 ∷ 101 ∷ []

abbrev pub after_f : List ℕ
after_f = 97 ∷ 108 ∷ 115 ∷ 101 ∷ []

abbrev pub mark_first : ℕ
mark_first = 239

abbrev pub mark_second : ℕ
mark_second = 187

abbrev pub mark_third : ℕ
mark_third = 191

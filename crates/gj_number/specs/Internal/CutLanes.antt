-- The digits of a number in lanes from which its cut value is read.
use Rattle.std.specs.Prelude.{ℕ, ◌+◌, ◌-◌, ◌*◌, List, [], ◌∷◌, ◌++◌, take, drop}
use Rattle.std.specs.Prelude.{replicate}
use Rattle.std.specs.List.{fold}
use Rattle.std.specs.Simd.Lanes.{pick_l}
use Rattle.gj_number.specs.Internal.DigitLanes.{with_value}

-- three digits, the first of them zeros where fewer stand before the point
abbrev pub before_point : ℕ → List ℕ → List ℕ
before_point natural lanes = replicate (3 - natural) 0 ++ take natural lanes

-- thirteen digits, the last of them zeros where fewer of the lanes after the point have one
abbrev pub after_point : ℕ → ℕ → List ℕ → List ℕ
after_point natural fraction lanes = take 13 (take fraction (drop (natural + 1) lanes) ++ replicate 13 0)

-- these in their lanes: those after the seventh after the point stand between the others
abbrev pub in_lanes : List ℕ → List ℕ → List ℕ
in_lanes before after = pick_l 0 (before ++ after) (0 ∷ 1 ∷ 2 ∷ 10 ∷ 3 ∷ 4 ∷ 5 ∷ 11 ∷ 6 ∷ 7 ∷ 8 ∷ 12 ∷ 9 ∷ 13 ∷ 14 ∷ 15 ∷ [])

-- the number that the other lanes spell
abbrev pub cut_in : List ℕ → ℕ
cut_in lanes = fold with_value 0 (pick_l 0 lanes (0 ∷ 1 ∷ 2 ∷ 4 ∷ 5 ∷ 6 ∷ 8 ∷ 9 ∷ 10 ∷ 12 ∷ []))

-- the lanes between
abbrev pub rests_in : List ℕ → List ℕ
rests_in lanes = pick_l 0 lanes (3 ∷ 7 ∷ 11 ∷ 13 ∷ 14 ∷ 15 ∷ [])

-- the numbers of three lanes, three more, three more, and one
abbrev pub by_parts : List ℕ → List ℕ
by_parts (a ∷ b ∷ c ∷ _ ∷ d ∷ e ∷ f ∷ _ ∷ g ∷ h ∷ i ∷ _ ∷ j ∷ _) =
    ((a * 10 + b) * 10 + c) ∷ ((d * 10 + e) * 10 + f) ∷ ((g * 10 + h) * 10 + i) ∷ j ∷ []
by_parts _ = []

-- each two numbers as one, the second below 10^4
abbrev pub by_sevens : List ℕ → List ℕ
by_sevens (a ∷ b ∷ numbers) = (a * 10000 + b) ∷ by_sevens numbers
by_sevens _ = []

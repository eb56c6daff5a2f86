-- What is reported of some warnings, by computing.
use Rattle.gj_coords.proofs.Common.{Kind, W2, W3, W4, W5, W8, Warning, first_of, greatest_count, joined_noted, noted_as, warning_at}
use Rattle.std.proofs.Common.{◌≡◌, ℕ, List, [], ◌∷◌, Option, Some, None, map, refl}
use Rattle.gj_coords.specs.declared.kind.Kind.TheVariants.{W9}
use Rattle.gj_coords.specs.Warnings.{count_of}
use Rattle.gj_coords.specs.Internal.KeptWarnings.{no_warnings, warnings_of, added}

abbrev Reported : List Warning → List (Kind × ℕ × Option ℕ) → Type 0
Reported warnings rows = map (λ row. (row.0, count_of row.0 warnings, first_of row.0 warnings)) rows ≡ rows

none : Reported [] ((W2, 0, None) ∷ [])
none = refl

twice : Reported (warning_at 1 W9 ∷ warning_at 9 W9 ∷ []) ((W9, 2, Some 1) ∷ [])
twice = refl

lesser_second : Reported (warning_at 50 W3 ∷ warning_at 36 W3 ∷ []) ((W3, 2, Some 36) ∷ [])
lesser_second = refl

-- of two kinds each has its own
two_kinds : Reported (warning_at 31 W4 ∷ warning_at 30 W5 ∷ warning_at 32 W4 ∷ []) ((W4, 2, Some 31) ∷ (W5, 1, Some 30) ∷ (W8, 0, None) ∷ [])
two_kinds = refl

-- the greatest count stays
stays : joined_noted (noted_as greatest_count 3) (noted_as 2 1) ≡ noted_as greatest_count 1
stays = refl

one_below : joined_noted (noted_as 4294967294 3) (noted_as 1 7) ≡ noted_as greatest_count 3
one_below = refl

-- what is kept is that of a list
no_warning : no_warnings ≡ warnings_of []
unfolding no_warnings warnings_of
no_warning = refl

one_by_one : added (added no_warnings W3 50) W3 36 ≡ warnings_of (warning_at 50 W3 ∷ warning_at 36 W3 ∷ [])
unfolding added no_warnings warnings_of
one_by_one = refl

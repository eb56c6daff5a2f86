-- What some numbers denote, by computing.
use Rattle.gj_number.proofs.Common.{Bool, Exact, List, None, Option, Some, cut_of, false, map, negsuc, places_of, refl, replicate, true, zero_digit, zero_exact}
use Rattle.gj_number.proofs.Common.{ℕ, ℤ, [], ◌++◌, ◌-◌, ◌^◌, ◌∷◌, ◌≡◌}
use Rattle.std.proofs.Common.{pos, codes}
use Rattle.gj_number.specs.Bytes.{nine_digit}
use Rattle.gj_number.specs.Value.{value_of, held_value, within_limits}

abbrev Denote : List (List ℕ × Option Exact) → Type 0
Denote rows = map (λ row. value_of row.0) rows ≡ map (λ row. row.1) rows

abbrev held : Bool → ℕ → ℤ → Option Exact
held negative digits power = Some (record { negative = negative; digits = digits; power = power })

spellings : Denote (
    (codes "-0.0", Some zero_exact)
    ∷ (codes "0e99999", Some zero_exact)
    ∷ (codes "1.50", held false 15 (negsuc 0))
    ∷ (codes "15e-1", held false 15 (negsuc 0))
    ∷ (codes "-180", held true 18 (pos 1))
    ∷ (codes "1E+2", held false 1 (pos 2))
    ∷ (codes "1e0000002", held false 1 (pos 2))
    ∷ (codes "100e-2", held false 1 (pos 0))
    ∷ (codes "-0.00000019", held true 19 (negsuc 7))
    ∷ (codes "1.4210854715202004e-14", held false 14210854715202004 (negsuc 29))
    ∷ [])
unfolding value_of held_value within_limits
spellings = refl

limits : Denote (
    (replicate 30 nine_digit, held false (10 ^ 30 - 1) (pos 0))
    ∷ (replicate 31 nine_digit, None)
    ∷ (codes "1e400", held false 1 (pos 400))
    ∷ (codes "10e400", None)
    ∷ (codes "0.1e-399", held false 1 (negsuc 399))
    ∷ (codes "0.1e1000", None)
    ∷ (codes "1" ++ replicate 1400 zero_digit ++ codes "e-1000", held false 1 (pos 400))
    ∷ [])
unfolding value_of held_value within_limits
limits = refl

-- ---- places and cut

cuts : map cut_of
    (record { negative = true; digits = 19; power = negsuc 7 } ∷ record { negative = false; digits = 10 ^ 17 - 1; power = negsuc 6 }
    ∷ record { negative = false; digits = 1; power = pos 10 } ∷ []) ≡ Some (negsuc 0) ∷ Some (pos (10 ^ 17 - 1)) ∷ None ∷ []
cuts = refl

many_places : places_of (record { negative = false; digits = 1; power = negsuc 399 }) ≡ 400
many_places = refl

-- How some rings run, by computing.
use Rattle.gj_coords.proofs.Common.{elements_of, pos, ring_turn, ◌*◌}
use Rattle.std.proofs.Common.{[], ◌∷◌, true, false, ◌^◌, refl}
use Rattle.std.specs.Prelude.{filter_map}
use Rattle.gj_coords.specs.declared.winding.Turn.TheVariants.{Left, Right, Straight, Unjudged}
use Rattle.gj_coords.specs.Winding.{cut_position, in_range, area_of}
use Rattle.gj_coords.proofs.Examples.TextRows.{Rows, begins_number, class_of, held_value, is_number, number_class, value_of, within_limits}

-- a square as an exterior ring runs, as a hole runs, there and back, nowhere, from the last position not to the first, and out of range
rings : Rows (λ text. ring_turn (elements_of text.value)) (
    ("[[0,0],[1,0],[1,1],[0,1],[0,0]]", Left)
    ∷ ("[[0,0],[0,1],[1,1],[1,0],[0,0]]", Right)
    ∷ ("[[0,0],[1,1],[0,0]]", Straight)
    ∷ ("[]", Straight)
    ∷ ("[[1,0]]", Straight)
    ∷ ("[[1,0],[0,1]]", Left)
    ∷ ("[[181,0],[0,0],[1,0],[1,1],[0,1],[0,0]]", Unjudged)
    ∷ ("[[0,0],[1,0],[1,1],[0,1],[0,0],[181,0]]", Unjudged)
    ∷ [])
unfolding class_of number_class is_number begins_number value_of held_value within_limits
rings = refl

-- twice one square degree, on numbers of seven places
square_area : Rows (λ text. area_of (filter_map cut_position (elements_of text.value))) (("[[0,0],[1,0],[1,1],[0,1],[0,0]]", pos (2 * 10 ^ 14)) ∷ [])
unfolding class_of number_class is_number begins_number value_of held_value within_limits
square_area = refl

ranges : Rows (λ text. in_range text.value) (("[180,90]", true) ∷ ("[181,90]", false) ∷ ("[180,91]", false) ∷ [])
unfolding class_of number_class is_number begins_number value_of held_value within_limits
ranges = refl

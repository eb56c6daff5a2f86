use Rattle.std.proofs.Common.{◌≡◌, ◌∙◌, ℕ, ◌+◌, List, [], ◌∷◌, get_or, ap, sym, refl}
use native.Mathlib.Numerals.{unary_clauses}
use Rattle.std.proofs.Math.ListN.{get_or-map}
use Rattle.gj_hints.specs.Texts.{texts, text_of, place_of}
use Rattle.geolint_c.specs.Hints.{hint_text}
use Rattle.geolint_c.specs.Texts.{with_zero}
use Rattle.geolint_c.proofs.texts.hint_text.Goals as goal

after : (xs : List (List ℕ)) (n : ℕ) → get_or ([] ∷ xs) (n + 1) [] ≡ get_or xs n []
after xs n = simp unary_clauses refl

pub returns-in-Some : goal.returns-in-Some
unfolding text_of
returns-in-Some c =
    let place = place_of c.in-Some.hint in
    c.text_at.ensures ∙ (get_or-map with_zero ([] ∷ texts) (place + 1) [] ∙ (ap with_zero (after texts place) ∙ ap hint_text (sym c.in-Some.is)))

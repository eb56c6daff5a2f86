-- The places that a verdict names are those of what it says.
use Rattle.gj_rules.proofs.Common.{Allowed, Bool, Broken, IsVerdict, Judgement, Kind, List, NotJson, TellsPlace, Valid, Verdict, Warning, Warnings}
use Rattle.gj_rules.proofs.Common.{arith, broken, false, if◌then◌else◌, length, nat_tests, refl, sym, text_warnings, true, valid, ◌<◌, ◌∙◌, ◌≤◌}
use Rattle.std.proofs.Common.{◌≡◌, ◌==◌, ℕ, Some, None}
use Rattle.gj_coords.specs.Internal.KeptWarnings.{kept, first_in}
use Rattle.gj_coords.specs.Warnings.{first_of}
use Rattle.gj_coords.specs.WarningsStand.{StandsFor}
use Rattle.gj_coords.proofs.Lists.ListsStoodFor.{kept_of, first_is, first_is_none}
use Rattle.gj_rules.specs.Places.{IsPlaceIn}
use Rattle.gj_rules.specs.Verdict.{refused, IsJudgement}

-- the first place that is named is the least of the list
first_told : (told : Warnings) (kind : Kind) (warnings : List Warning) → StandsFor told warnings → first_in kind told ≡ first_of kind warnings
first_told told kind warnings stands = by_count ((kept told kind).count == 0) refl
  where
    zero_count : (n : ℕ) → (n == 0) ≡ true → n ≡ 0
    zero_count n h = grind (arith, nat_tests)

    some_count : (n : ℕ) → (n == 0) ≡ false → 0 < n
    some_count n h = grind (arith, nat_tests)

    by_count : (none : Bool) → ((kept told kind).count == 0) ≡ none → (if none then None else Some (kept told kind).first) ≡ first_of kind warnings
    by_count true h = first_is_none (kept told kind) kind warnings (kept_of told kind warnings stands) (zero_count (kept told kind).count h)
    by_count false h = first_is (kept told kind) kind warnings (kept_of told kind warnings stands) (some_count (kept told kind).count h)

-- the law of what is reported of an input
abbrev pub PlacesWithin : Type 0
PlacesWithin = (limits : Allowed) (bytes : List ℕ) (judgement : Judgement) (place : ℕ) → IsJudgement limits bytes judgement → IsPlaceIn place judgement
    → place ≤ length bytes

pub told_within : PlacesWithin → (limits : Allowed) (bytes : List ℕ) (verdict : Verdict) (place : ℕ) → IsVerdict limits bytes verdict → TellsPlace place verdict
    → place ≤ length bytes
told_within within limits bytes (Valid told) place h p =
    within limits bytes (valid (text_warnings h.0)) place (h.0, h.1, h.2, refl) (p.0, sym (first_told told p.0 (text_warnings h.0) h.3) ∙ p.1)
told_within within limits bytes (Broken fault) place h p = within limits bytes (broken fault) place h p
told_within within limits bytes (NotJson fault) place h p = within limits bytes (refused fault) place h p

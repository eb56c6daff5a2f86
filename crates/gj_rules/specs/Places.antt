-- The places that are reported of an input.
use Rattle.std.specs.Prelude.{◌≡◌, ℕ, Some}
use Rattle.gj_coords.specs.Warnings.{first_of}
use Rattle.gj_coords.specs.declared.kind.Kind.{Kind}
use Rattle.gj_rules.specs.Verdict.{Judgement, valid, broken, refused}

-- the least place of a kind of warning, that of the broken rule, or that of the refusal
abbrev pub IsPlaceIn : ℕ → Judgement → Type 0
IsPlaceIn place (valid warnings) = (kind : Kind) × (first_of kind warnings ≡ Some place)
IsPlaceIn place (broken fault) = place ≡ fault.place
IsPlaceIn place (refused fault) = place ≡ fault.place

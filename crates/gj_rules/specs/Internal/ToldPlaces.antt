-- The places that a verdict names, by what is kept of the warnings.
use Rattle.std.specs.Prelude.{◌≡◌, ℕ, Some}
use Rattle.gj_coords.specs.declared.kind.Kind.{Kind}
use Rattle.gj_coords.specs.Internal.KeptWarnings.{first_in}
use Rattle.gj_rules.specs.declared.verdict.Verdict.{Verdict}
use Rattle.gj_rules.specs.declared.verdict.Verdict.TheVariants.{Valid, Broken, NotJson}

-- the first place of a kind of warning, that of the broken rule, or that of the refusal
abbrev pub TellsPlace : ℕ → Verdict → Type 0
TellsPlace place (Valid warnings) = (kind : Kind) × (first_in kind warnings ≡ Some place)
TellsPlace place (Broken fault) = place ≡ fault.place
TellsPlace place (NotJson fault) = place ≡ fault.place

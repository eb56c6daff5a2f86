-- What is given of a name when one byte more of it comes.
use Rattle.std.specs.Prelude.{◌≡◌, ℕ, Bool, List, [], ◌∷◌, ◌++◌, ⊤, Result, Ok, Err}
use Rattle.geolint_report.specs.Listed.{given, has_nul}

abbrev pub AddsByte : {E : Type 0} → List ℕ → Bool → ℕ → Result Unit E → List ℕ → Bool → Type 0
AddsByte name has byte (Ok done) more has_now = (begun : List ℕ) → name ≡ given begun → has ≡ has_nul begun
    → (more ≡ given (begun ++ byte ∷ [])) × (has_now ≡ has_nul (begun ++ byte ∷ []))
AddsByte name has byte (Err error) more has_now = ⊤

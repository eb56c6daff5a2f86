-- The sections of the manual, in the order of the codes.
use Rattle.std.specs.Prelude.{Bool, true, false, ◌&&◌, map, List, [], ◌∷◌, ◌++◌, ℕ, codes, get_or, nat_eq}
use Rattle.std.specs.List.{starts_with}
use Rattle.geolint_report.specs.Slots.{slot_of}
use Rattle.geolint_report.specs.Texts.{code_name}
use Rattle.geolint_report.specs.declared.texts.Code.{Code}
use Rattle.report_forms.specs.declared.manual.sections.TheConstants.{SECTIONS}

-- nothing beyond them
abbrev pub text_at : List (List ℕ) → ℕ → List ℕ
text_at texts place = get_or texts place []

abbrev pub section_of : Code → List ℕ
section_of code = text_at (map (λ text. text.now) SECTIONS) (slot_of code)

-- each begins with the name of the code at its place
abbrev pub are_named : List Code → List (List ℕ) → Bool
are_named [] [] = true
are_named (code ∷ more) (text ∷ others) = starts_with nat_eq text (code_name code ++ codes ": ") && are_named more others
are_named _ _ = false

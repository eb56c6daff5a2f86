-- The names of codes: a code is told by its name, which has nothing to escape.
use Rattle.std.proofs.Common.{◌≡◌, ◌∙◌, ℕ, List, true, Option, None, Some, refl, ap, sym}
use Rattle.std.specs.List.{find}
use Rattle.gj_coords.specs.declared.fault.Rule.TheVariants.{G1}
use Rattle.gj_coords.specs.declared.kind.Kind.TheVariants.{W1}
use Rattle.gj_json.specs.declared.fault.Cause.TheVariants.{Syntax}
use Rattle.geolint_report.specs.Texts.{code_name, is_listed, is_named}
use Rattle.geolint_report.specs.declared.texts.Code.{Code}
use Rattle.geolint_report.specs.declared.texts.TheConstants.{ALL}
use Rattle.json.specs.Print.{escape, escape_byte}

-- the code of a name
abbrev code-or : Option Code → Code
code-or (Some code) = code
code-or None = Code.NotValid

abbrev code-of : List ℕ → Code
code-of name = code-or (find (is_named name) ALL)

pub code-back : (code : Code) → (escape (code_name code) ≡ code_name code) × (code-of (code_name code) ≡ code)
unfolding code_name escape_byte
code-back (Code.Rule G1) = (refl, refl)
code-back (Code.Kind W1) = (refl, refl)
code-back (Code.Cause Syntax) = (refl, refl)
code-back other = (refl, refl)

pub same-code : (one other : Code) → code_name one ≡ code_name other → one ≡ other
same-code one other e = sym (code-back one).1 ∙ (ap code-of e ∙ (code-back other).1)

of-value : (found : Option Code) (code : Code) → code-or found ≡ code → is_listed code ≡ true → found ≡ Some code
of-value (Some one) code is listed = ap Some is
of-value None code is listed = cc

-- each code of the table is found by its name
pub found-by-name : (name : List ℕ) (code : Code) → is_listed code ≡ true → name ≡ code_name code → find (is_named name) ALL ≡ Some code
found-by-name name code listed is = of-value (find (is_named name) ALL) code (ap code-of is ∙ (code-back code).1) listed

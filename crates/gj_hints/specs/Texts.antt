-- What each hint says: the table of the code says it, in the order of the hints.
use denote.Enum.Declared.{tag_of}
use Rattle.std.specs.Prelude.{ℕ, List, [], map, get_or}
use Rattle.gj_hints.specs.contracts.kind.Hint.{the_type}
use Rattle.gj_hints.specs.declared.kind.Hint.{Hint}
use Rattle.gj_hints.specs.declared.kind.TheConstants.{TEXTS}

abbrev pub place_of : Hint → ℕ
place_of hint = tag_of the_type hint

abbrev pub texts : List (List ℕ)
texts = map (λ row. row.1.now) TEXTS

unfoldable pub text_of : Hint → List ℕ
text_of hint = get_or texts (place_of hint) []

-- What a rule and a kind of warning are called in a report: the tables of the code say it, in the order of the numbers.
use Rattle.std.specs.Prelude.{ℕ, ◌-◌, List, [], map, get_or}
use Rattle.gj_coords.specs.declared.fault.Rule.{Rule}
use Rattle.gj_coords.specs.declared.fault.TheConstants.{RULE_TEXTS}
use Rattle.gj_coords.specs.declared.kind.Kind.{Kind}
use Rattle.gj_coords.specs.declared.kind.TheConstants.{KIND_TEXTS}
use Rattle.gj_coords.specs.Fault.{number_of}
use Rattle.gj_coords.specs.Warnings.{index_of}

abbrev pub rule_texts : List (List ℕ)
rule_texts = map (λ text. text.now) RULE_TEXTS

abbrev pub kind_texts : List (List ℕ)
kind_texts = map (λ text. text.now) KIND_TEXTS

unfoldable pub rule_text : Rule → List ℕ
rule_text rule = get_or rule_texts (number_of rule - 1) []

unfoldable pub kind_text : Kind → List ℕ
kind_text kind = get_or kind_texts (index_of kind) []

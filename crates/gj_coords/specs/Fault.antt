-- What is wrong with a text: rules that are broken, each with a place, and the least of them.
use denote.Enum.Declared.{tag_of}
use Rattle.std.specs.Prelude.{ℕ, ◌+◌, List, [], ◌∷◌, Option, Some, None, Bool, nat_lt, nat_eq, nat_le, ◌&&◌, ◌||◌, if◌then◌else◌}
use Rattle.gj_coords.specs.declared.fault.Fault.{Fault}
use Rattle.gj_coords.specs.declared.fault.Rule.{Rule}
use Rattle.gj_coords.specs.declared.fault.TheConstants.{RULES}
use Rattle.gj_coords.specs.contracts.fault.Rule.{the_type}

-- the number in a rule's name: its place among all rules, as they are declared
abbrev pub number_of : Rule → ℕ
number_of rule = tag_of the_type rule + 1

-- all rules, in the order of their numbers
abbrev pub rules : List Rule
rules = RULES

abbrev pub fault_at : ℕ → Rule → Fault
fault_at place rule = record { place = place; rule = rule }

-- by place, and at one place by the rule's number
abbrev pub comes_first : Fault → Fault → Bool
comes_first a b = nat_lt a.place b.place || (nat_eq a.place b.place && nat_le (number_of a.rule) (number_of b.rule))

-- the lesser of two, where there are any
abbrev pub lesser : Option Fault → Option Fault → Option Fault
lesser None b = b
lesser (Some a) None = Some a
lesser (Some a) (Some b) = if comes_first a b then Some a else Some b

abbrev pub least : List Fault → Option Fault
least [] = None
least (x ∷ xs) = lesser (Some x) (least xs)

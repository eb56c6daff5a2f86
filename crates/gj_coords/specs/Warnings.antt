-- What is worth a warning in a text that breaks no rule: warnings, each with a kind and a place, and what is reported of them.
use denote.Enum.Declared.{tag_of}
use Rattle.std.specs.Prelude.{ℕ, ◌+◌, ◌-◌, min, List, [], ◌∷◌, map, length, filter, Option, Some, None, Bool, nat_eq}
use Rattle.gj_coords.specs.declared.kind.Kind.{Kind}
use Rattle.gj_coords.specs.declared.kind.TheConstants.{KINDS}
use Rattle.gj_coords.specs.contracts.kind.Kind.{the_type}

-- the number in a kind's name: its place among all kinds, as they are declared
abbrev pub kind_number : Kind → ℕ
kind_number kind = tag_of the_type kind + 1

-- all kinds, in the order of their numbers
abbrev pub kinds : List Kind
kinds = KINDS

-- where a kind stands among them
abbrev pub index_of : Kind → ℕ
index_of kind = kind_number kind - 1

-- a warning, and the place of what it is given for
pub record Warning : Type 0 where
  pub place : ℕ
  pub kind : Kind

abbrev pub warning_at : ℕ → Kind → Warning
warning_at place kind = record { place = place; kind = kind }

-- the same warning, so many bytes further on
abbrev pub shifted_by : ℕ → Warning → Warning
shifted_by by warning = warning_at (warning.place + by) warning.kind

abbrev pub same_kind : Kind → Kind → Bool
same_kind a b = nat_eq (kind_number a) (kind_number b)

-- the places of the warnings of a kind
abbrev pub places_of : Kind → List Warning → List ℕ
places_of kind warnings = map (λ warning. warning.place) (filter (λ warning. same_kind warning.kind kind) warnings)

-- a count stays there
abbrev pub greatest_count : ℕ
greatest_count = 4294967295

-- how many warnings of a kind there are, as far as it is counted
abbrev pub count_of : Kind → List Warning → ℕ
count_of kind warnings = min (length (places_of kind warnings)) greatest_count

abbrev pub lesser_place : Option ℕ → Option ℕ → Option ℕ
lesser_place None b = b
lesser_place (Some a) None = Some a
lesser_place (Some a) (Some b) = Some (min a b)

abbrev pub least_place : List ℕ → Option ℕ
least_place [] = None
least_place (place ∷ more) = lesser_place (Some place) (least_place more)

-- the least place of a warning of a kind
abbrev pub first_of : Kind → List Warning → Option ℕ
first_of kind warnings = least_place (places_of kind warnings)

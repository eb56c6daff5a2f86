-- What a type asks of the members of an object (RFC 7946, sections 3 and 7.1): one table.
use denote.Enum.Declared.{tag_of}
use Rattle.std.specs.Prelude.{ℕ, ◌^◌, bit_or, nat_eq, Bool, if◌then◌else◌, List, [], ◌∷◌, Option, Some, None}
use Rattle.std.specs.Int.{bit_at}
use Rattle.gj_json.specs.declared.names.Known.{Known}
use Rattle.gj_json.specs.declared.names.Known.TheVariants.{Coordinates, Geometries, Geometry, Properties, Features, Bbox, Id}
use Rattle.gj_json.specs.contracts.names.Known.{the_type}
use Rattle.gj_json.specs.declared.names.Word.{Word}
use Rattle.gj_coords.specs.declared.fault.Fault.{Fault}
use Rattle.gj_coords.specs.declared.fault.Rule.{Rule}
use Rattle.gj_coords.specs.declared.fault.Rule.TheVariants.{G4, G5, G6, G7, G8, G9}
use Rattle.gj_coords.specs.Fault.{fault_at}
use Rattle.gj_rules.specs.declared.member_slots.member_rules.MemberRules.{MemberRules}
use Rattle.gj_rules.specs.declared.member_slots.Slot.{Slot}
use Rattle.gj_rules.specs.Members.{forbidden_by}

-- ---- the table

-- the members that have to be there
abbrev pub due_by : Word → List Known
due_by Word.GeometryCollection = Geometries ∷ []
due_by Word.Feature = Geometry ∷ Properties ∷ []
due_by Word.FeatureCollection = Features ∷ []
due_by Word.Other = []
due_by _ = Coordinates ∷ []

-- those whose values are used, beside the coordinates
abbrev pub used_by : Word → List Known
used_by Word.GeometryCollection = Geometries ∷ Bbox ∷ []
used_by Word.Feature = Geometry ∷ Properties ∷ Id ∷ Bbox ∷ []
used_by Word.FeatureCollection = Features ∷ Bbox ∷ []
used_by _ = Bbox ∷ []

-- ---- with a bit for each name

abbrev pub index_of : Known → ℕ
index_of name = tag_of the_type name

abbrev pub bits_of : List Known → ℕ
bits_of [] = 0
bits_of (name ∷ more) = bit_or (2 ^ index_of name) (bits_of more)

abbrev pub is_among : ℕ → Known → Bool
is_among names name = nat_eq (bit_at names (index_of name)) 1

-- of `Other` where the type is missing or wrong
abbrev pub rules_of : Word → MemberRules
rules_of word = record { due = bits_of (due_by word); used = bits_of (used_by word); forbidden = bits_of (forbidden_by word) }

-- where each member may still come
abbrev pub without_due : MemberRules → MemberRules
without_due rules = record rules { due = 0 }

-- ---- what is wrong by them

-- the rule that an object breaks in which the member is missing
abbrev pub missing : Known → Rule
missing Geometries = G5
missing Geometry = G6
missing Properties = G7
missing Features = G8
missing _ = G4

-- of a name: whether it is due, used and forbidden, what is wrong where it is missing, and its first member
abbrev pub asked_fault : Bool → Bool → Bool → Fault → Option Slot → Option Fault
asked_fault due used forbidden fault None = if due then Some fault else None
asked_fault due used forbidden fault (Some slot) = if forbidden then Some (fault_at slot.name_at G9) else (if used then slot.fault else None)

abbrev pub member_fault : MemberRules → ℕ → Known → Option Slot → Option Fault
member_fault rules place name slot =
    asked_fault (is_among rules.due name) (is_among rules.used name) (is_among rules.forbidden name) (fault_at place (missing name)) slot

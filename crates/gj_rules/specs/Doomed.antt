-- Whether the first events of a text show that it is no GeoJSON (RFC 7946), whatever comes after them: its value is no
-- object, or the members that stand directly in its object break a rule by their names and by the first `type`.
use Rattle.std.specs.Prelude.{ℕ, zero, suc, Bool, true, false, ◌&&◌, ◌||◌, IsTrue, List, [], ◌∷◌, ◌++◌, map, length, Option, Some, None}
use Rattle.std.specs.List.{list_any}
use Rattle.gj_json.specs.declared.event.Event.{Event}
use Rattle.gj_json.specs.declared.event.What.{What}
use Rattle.gj_json.specs.declared.names.Known.{Known}
use Rattle.gj_json.specs.declared.names.Known.TheVariants.{TypeName}
use Rattle.gj_json.specs.declared.names.Word.{Word}
use Rattle.gj_json.specs.Events.{events_by}
use Rattle.gj_json.specs.Ignored.{levels_behind}
use Rattle.gj_json.specs.Text.{IsTextWithin}
use Rattle.gj_json.specs.Tree.{Text}
use Rattle.gj_rules.specs.Members.{is_known, mentions, forbidden_by}

-- ---- what stands directly in the text's object

abbrev pub at_level : ℕ → What → List What → List What
at_level (suc zero) what more = what ∷ more
at_level _ what more = more

-- of the events that come where so many levels are open, those at one level: the names of the object's members, the
-- first event of each value, and the object's end
abbrev pub outermost : ℕ → List What → List What
outermost levels [] = []
outermost levels (what ∷ more) = at_level levels what (outermost (levels_behind what levels) more)

-- the names of the members
abbrev pub names : List What → List Known
names [] = []
names (What.Name name ∷ more) = name ∷ names more
names (_ ∷ more) = names more

-- the type that the first event of a value names
abbrev pub type_named : What → Word
type_named (What.Text word) = word
type_named _ = Word.Other

-- the type that the value of the first `type` names, once that value has begun to be reported
abbrev pub first_type : List What → Option Word
first_type (What.Name TypeName ∷ (value ∷ more)) = Some (type_named value)
first_type (_ ∷ more) = first_type more
first_type [] = None

-- ---- the rules that they break

-- a known name is repeated, among names that come after those of `before` (section 7.1 and RFC 8259, section 4)
abbrev pub repeats : List Known → List Known → Bool
repeats before [] = false
repeats before (name ∷ more) = (is_known name && mentions before name) || repeats (name ∷ before) more

-- the type is none of the nine (section 1.4), or it forbids a name that is there, whichever of the two came first
abbrev pub type_fails : Option Word → List Known → Bool
type_fails None found = false
type_fails (Some Word.Other) found = true
type_fails (Some word) found = list_any (mentions found) (forbidden_by word)

abbrev pub members_fail : List What → Bool
members_fail members = repeats [] (names members) || type_fails (first_type members) (names members)

-- ---- the text

-- from the first event of the text's value on: it is no object, or its members fail
abbrev pub value_fails : List What → Bool
value_fails [] = false
value_fails (What.OpenObject ∷ more) = members_fail (outermost 1 more)
value_fails _ = true

-- after a byte order mark, where there is one
abbrev pub text_fails : List What → Bool
text_fails (What.Mark ∷ more) = value_fails more
text_fails all = value_fails all

abbrev pub is_doomed : List Event → Bool
is_doomed events = text_fails (map (λ event. event.what) events)

-- these bytes begin a text that nests no deeper, and the events complete in them show it
abbrev pub BeginNoGeoJson : ℕ → List ℕ → Type 0
BeginNoGeoJson levels bytes = (rest : List ℕ) × (text : Text) × IsTextWithin levels text (bytes ++ rest) × IsTrue (is_doomed (events_by (length bytes) text))

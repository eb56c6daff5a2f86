-- Which files of a folder are checked, and how their texts are separated, by their names; what a call names, and which names come next.
use Rattle.std.specs.Prelude.{ℕ, ◌+◌, ◌==◌, ◌-◌, ◌&&◌, ◌||◌, Bool, false, List, [], ◌∷◌, ◌++◌, map, Vec, length, drop, codes, nat_eq, if◌then◌else◌}
use Rattle.std.specs.Prelude.{Option, Some}
use Rattle.std.specs.Prelude.{None, is_some}
use Rattle.std.specs.List.{list_any, ends_with}
use Rattle.std.specs.Cmp.Lexicographic.{pointwise}
use Rattle.std.specs.Ordering.{nat_cmp, ordering_then}
use Rattle.std.specs.declared.cmp.Ordering.{Ordering}
use Rattle.std.specs.Str.{str_eq_ignore_ascii_case}
use Rattle.std.specs.Borrow.{Bor}
use Rattle.std.specs.declared.alloc.Global.{Global}
use Rattle.gj_rules.specs.declared.records.framing.Framing.{Framing}
use Rattle.geolint_files.specs.declared.walk.Pending.{Pending}
use Rattle.geolint_files.specs.declared.walk.TheConstants.{LINES, SEQUENCES}

abbrev pub slash : ℕ
slash = 47

abbrev pub dot : ℕ
dot = 46

-- a name ends so, in capitals or not
abbrev pub ends_in : List ℕ → List ℕ → Bool
ends_in name ending = str_eq_ignore_ascii_case (drop (length name - length ending) name) ending

-- how the texts of a file of this name are separated; others are one text
abbrev pub ends_in_any : List ℕ → List (Bor (List ℕ)) → Bool
ends_in_any name endings = list_any (λ (ending : Bor (List ℕ)). ends_in name ending.now) endings

abbrev pub framing_of : List ℕ → Option Framing
framing_of name =
    if list_any (λ ending. ends_in name ending.now) SEQUENCES
    then Some Framing.Sequence
    else (if list_any (λ ending. ends_in name ending.now) LINES then Some Framing.Lines else None)

abbrev pub ends_in_one : List ℕ → List (Vec ℕ Global) → Bool
ends_in_one name endings = list_any (λ (ending : Vec ℕ Global). ends_in name ending.items) endings

-- these are the endings beside the usual ones
abbrev pub is_taken : List ℕ → List (Vec ℕ Global) → Bool
is_taken name endings = ends_in name (codes ".geojson") || (is_some (framing_of name) || ends_in_one name endings)

-- ---- the ending of a name that is passed over

-- where it begins, with one byte more of the path
abbrev pub start_after : ℕ → ℕ → ℕ → ℕ
start_after byte place start = if byte == slash then place + 1 else (if byte == dot then place else start)

abbrev pub start_in : ℕ → ℕ → List ℕ → ℕ
start_in place start [] = start
start_in place start (byte ∷ more) = start_in (place + 1) (start_after byte place start) more

-- from the last dot of the last name on; the whole name where it has none
abbrev pub ending_of : List ℕ → List ℕ
ending_of path = drop (start_in 0 0 path) path

-- ---- names that are still to be looked at

-- the names, and whether each was given
abbrev pub named_in : List Pending → List (List ℕ × Bool)
named_in pending = map (λ (one : Pending). (one.name.items, one.is_given)) pending

abbrev pub separator_after : List ℕ → List ℕ
separator_after folder = if ends_with nat_eq folder (codes "/") then [] else codes "/"

-- the name of a folder's entry
abbrev pub entry_name : List ℕ → List ℕ → List ℕ
entry_name folder entry = folder ++ (separator_after folder ++ entry)

-- a folder's entries, each by its name; none of them was given
abbrev pub entries_in : List ℕ → List (Vec ℕ Global) → List (List ℕ × Bool)
entries_in folder entries = map (λ (entry : Vec ℕ Global). (entry_name folder entry.items, false)) entries

-- the order of folders, by device and number
abbrev pub folder_cmp : ℕ × ℕ → ℕ × ℕ → Ordering
folder_cmp one other = ordering_then (nat_cmp one.0 other.0) (nat_cmp one.1 other.1)

-- ---- the words of a call

-- the name of standard input
abbrev pub is_input : List ℕ → Bool
is_input name = pointwise nat_eq name (codes "-")

abbrev pub is_input_path : Vec ℕ Global → Bool
is_input_path path = is_input path.items

-- as a file and as the list
abbrev pub takes_input_twice : List (Vec ℕ Global) → Option (Vec ℕ Global) → Bool
takes_input_twice paths None = false
takes_input_twice paths (Some list) = is_input list.items && list_any is_input_path paths

abbrev pub first_named : List (Vec ℕ Global) → Option (Vec ℕ Global) → List ℕ
first_named (path ∷ more) list = path.items
first_named [] (Some list) = list.items
first_named [] None = codes "-"

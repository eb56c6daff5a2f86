-- Which hint is given: by what is wrong, the first bytes of the file, and those before the place and from it on.
use Rattle.std.specs.Prelude.{ℕ, Bool, ◌||◌, List, Option, Some, None, map, codes, if◌then◌else◌}
use Rattle.std.specs.List.{list_any}
use Rattle.gj_hints.specs.declared.clues.Clues.{Clues}
use Rattle.gj_hints.specs.declared.clues.Wrong.{Wrong}
use Rattle.gj_hints.specs.declared.kind.Hint.{Hint}
use Rattle.gj_hints.specs.declared.clues.TheConstants.{ESRI}
use Rattle.gj_hints.specs.declared.signs.TheConstants.{AROUND, INSIDE, SIGNS}
use Rattle.gj_hints.specs.Bytes.{begins, holds}
use Rattle.gj_hints.specs.Numbers.{number_hint}
use Rattle.gj_hints.specs.Signs.{first_around, first_seen}
use Rattle.gj_hints.specs.Swapped.{are_metres, is_swapped}

abbrev pub when : Bool → Hint → Option Hint
when condition hint = if condition then Some hint else None

-- the first hint, or else the second
abbrev pub or_else : Option Hint → Option Hint → Option Hint
or_else (Some hint) other = Some hint
or_else None other = other

-- by the tables of `src/signs.rt`
unfoldable pub by_sign : Clues → Option Hint
by_sign clues = first_seen (map (λ row. (row.0, row.1.now, row.2)) SIGNS) clues

unfoldable pub by_bytes_around : Clues → Option Hint
by_bytes_around clues = first_around (map (λ row. (row.0, row.1.now, row.2.now, row.3.now, row.4.now, row.5)) AROUND) clues

unfoldable pub by_bytes_inside : Clues → Option Hint
by_bytes_inside clues = first_around (map (λ row. (row.0, row.1.now, row.2.now, row.3.now, row.4.now, row.5)) INSIDE) clues

-- what is seen of a file, also after a whole text
abbrev pub anywhere : Clues → Option Hint
anywhere clues = or_else (by_sign clues) (by_bytes_around clues)

-- what a file is, or what is wrong where it is refused
abbrev pub refused : Clues → Option Hint
refused clues = or_else (anywhere clues) (by_bytes_inside clues)

-- what follows a whole text
abbrev pub following : Clues → Option Hint
following clues =
    if begins clues.after.now (codes "{") || begins clues.after.now (codes "[") then Some Hint.SecondText
    else anywhere clues

abbrev pub other_type : List ℕ → Option Hint
other_type after = if begins after (codes "\"Topology\"") then Some Hint.TopoJson else when (begins after (codes "null")) Hint.NullGeometry

abbrev pub is_esri : List ℕ → Bool
is_esri head = list_any (λ text. holds head text.now) ESRI

abbrev pub out_of_range : List ℕ → Option Hint
out_of_range after = if is_swapped after then Some Hint.SwappedAxes else when (are_metres after) Hint.Metres

abbrev pub hint_of : Wrong → Clues → Option Hint
hint_of Wrong.Refused clues = refused clues
hint_of Wrong.TextFollows clues = following clues
hint_of Wrong.NoObject clues = when (begins clues.after.now (codes "\"{")) Hint.TextInString
hint_of Wrong.NoType clues = when (is_esri clues.head.now) Hint.EsriJson
hint_of Wrong.OtherType clues = other_type clues.after.now
hint_of Wrong.OtherShape clues = when (begins clues.after.now (codes "null")) Hint.NullGeometry
hint_of Wrong.BeyondProfile clues = Some (number_hint clues.after.now)
hint_of Wrong.OutOfRange clues = out_of_range clues.after.now

-- What is held of a position that is the whole value says all that its levels would; and where a few looks show nothing
-- worth a warning, there is none.
use Rattle.gj_coords.proofs.Common.{Fault, Flat, KindWarnings, LineString, MultiLineString, MultiPoint, MultiPolygon, Numbered, Outermost, Point}
use Rattle.gj_coords.proofs.Common.{Polygon, Simple, Values, Warned, Warnings, WholeSummary, ap, comes_first, flat_first, flat_position, lesser}
use Rattle.gj_coords.proofs.Common.{level, no_warned, other, position_closed, sound_noted, warned_as, ◌&&◌}
use Rattle.std.proofs.Common.{◌≡◌, ℕ, Option, Some, None, Bool, true, false, ◌==◌, is_some, is_none, if◌then◌else◌, refl}
use Rattle.std.proofs.lemmas.Bool.{and_parts}
use Rattle.gj_coords.specs.Internal.PositionGather.{Position}
use Rattle.gj_coords.specs.Internal.PositionGather.{judged_noted}
use Rattle.gj_coords.specs.Internal.LevelGather.{fault_in, some_warned_in, warned_in, some_quiet_in, quiet_as}
use Rattle.gj_coords.specs.Internal.FlatPosition.{flat_count, flat_misshapen, held_fault, held_warned}

-- ---- a position that is the whole value

abbrev level_of : Option Numbered → ℕ → Values → KindWarnings → Option Fault → Outermost
level_of third place values precise misshapen = record {
  numbers = record { values = values; tally = record { place = place; count = flat_count third }; fault = None; precise = precise };
  positions_warned = no_warned;
  lines_warned = no_warned;
  rings_warned = no_warned;
  polygons_warned = no_warned;
  positions = misshapen;
  lines = misshapen;
  rings = misshapen;
  polygons = misshapen;
}

level_fault : (simple : Simple) (third : Option Numbered) (place : ℕ) (values : Values) (precise : KindWarnings) (misshapen : Option Fault) →
    held_fault simple misshapen ≡ fault_in simple (level_of third place values precise misshapen)
level_fault Point None place values precise misshapen = refl
level_fault _ None place values precise misshapen = refl
level_fault Point (Some number) place values precise misshapen = refl
level_fault _ (Some number) place values precise misshapen = refl

pub flat_fault : (simple : Simple) (f : Flat) → held_fault simple (flat_misshapen f) ≡ fault_in simple (flat_first f)
flat_fault simple f =
    let s : Outermost = flat_first f in
    level_fault simple f.third f.place s.numbers.values s.numbers.precise (flat_misshapen f)

abbrev position_of : Option Numbered → ℕ → Values → KindWarnings → Position
position_of third place values precise =
    position_closed (record { values = values; tally = record { place = place; count = flat_count third }; fault = None; precise = precise })

level_warned : (simple : Simple) (third : Option Numbered) (place : ℕ) (values : Values) (precise : KindWarnings) (misshapen : Option Fault) →
    held_warned simple (sound_noted no_warned (position_of third place values precise)) ≡ warned_in simple (level_of third place values precise misshapen)
level_warned Point None place values precise misshapen = refl
level_warned _ None place values precise misshapen = refl
level_warned Point (Some number) place values precise misshapen = refl
level_warned _ (Some number) place values precise misshapen = refl

pub flat_warned : (simple : Simple) (f : Flat) →
    held_warned simple (sound_noted no_warned (flat_position f)) ≡ warned_in simple (flat_first f)
flat_warned simple f =
    let s : Outermost = flat_first f in
    level_warned simple f.third f.place s.numbers.values s.numbers.precise (flat_misshapen f)

-- ---- a few looks

none_of : (o : Option Warnings) → is_none o ≡ true → o ≡ None
none_of None e = refl
none_of (Some warnings) e = cc

pub is_no_warned : (w : Warned) → is_none w.warnings ≡ true → w ≡ no_warned
is_no_warned w e =
    let build : Option Warnings → Warned = λ o. record { warnings = o } in
    ap build (none_of w.warnings e)

broken_if : (b : Bool) (x y : Fault) (p : Position) → judged_noted (if b then Some x else Some y) no_warned p ≡ no_warned
broken_if true x y p = refl
broken_if false x y p = refl

-- a position that breaks a rule gives none
broken_none : (few fault : Option Fault) (p : Position) → is_some fault ≡ true → judged_noted (lesser few fault) no_warned p ≡ no_warned
broken_none few None p e = cc
broken_none None (Some y) p e = refl
broken_none (Some x) (Some y) p e = broken_if (comes_first x y) x y p

for_each : (simple : Simple) (s : Outermost) → is_some s.numbers.fault ≡ true → is_none s.positions_warned.warnings ≡ true →
    is_none s.lines_warned.warnings ≡ true → is_none s.rings_warned.warnings ≡ true → is_none s.polygons_warned.warnings ≡ true →
    some_warned_in simple s ≡ no_warned
for_each Point s broken positions lines rings polygons = broken_none _ s.numbers.fault (position_closed s.numbers) broken
for_each MultiPoint s broken positions lines rings polygons = is_no_warned s.positions_warned positions
for_each LineString s broken positions lines rings polygons = is_no_warned s.positions_warned positions
for_each MultiLineString s broken positions lines rings polygons = is_no_warned s.lines_warned lines
for_each Polygon s broken positions lines rings polygons = is_no_warned s.rings_warned rings
for_each MultiPolygon s broken positions lines rings polygons = is_no_warned s.polygons_warned polygons

some_quiet : (simple : Simple) (s : Outermost) → some_quiet_in s ≡ true → some_warned_in simple s ≡ no_warned
some_quiet simple s e =
    let broken : Bool = is_some s.numbers.fault in
    let positions : Bool = is_none s.positions_warned.warnings in
    let lines : Bool = is_none s.lines_warned.warnings in
    let rings : Bool = is_none s.rings_warned.warnings in
    let polygons : Bool = is_none s.polygons_warned.warnings in
    let a = and_parts broken (positions && (lines && (rings && polygons))) e in
    let b = and_parts positions (lines && (rings && polygons)) a.1 in
    let d = and_parts lines (rings && polygons) b.1 in
    let f = and_parts rings polygons d.1 in
    for_each simple s a.0 b.0 d.0 f.0 f.1

where_some : (empty quiet : Bool) (w v : Warned) → (if empty then false else quiet) ≡ true → (quiet ≡ true → v ≡ no_warned)
    → (if empty then w else v) ≡ no_warned
where_some true quiet w v e k = cc
where_some false quiet w v e k = k e

pub quiet_none : (simple : Simple) (a : WholeSummary) → quiet_as a ≡ true → warned_as simple a ≡ no_warned
quiet_none simple (other place) e = refl
quiet_none simple (level s) e = where_some (s.numbers.tally.count == 0) (some_quiet_in s) _ _ e (some_quiet simple s)

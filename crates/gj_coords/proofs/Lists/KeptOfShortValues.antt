-- What is kept of the warnings of a value of fewer than 2^64 events is what is kept of the list of them.
use Rattle.gj_coords.proofs.Common.{Event, Simple, Tree, WholeSummary, all_in, ap, arith, coordinates_warnings, depth, first_answer, level, other}
use Rattle.gj_coords.proofs.Common.{value_events, warned_as}
use Rattle.std.proofs.Common.{◌≡◌, ◌<◌, ◌^◌, length, List, refl}
use Rattle.gj_coords.specs.Internal.KeptWarnings.{warnings_of}
use Rattle.gj_coords.specs.Internal.CoordinatesKept.{coordinates_kept}
use Rattle.gj_coords.proofs.Readers.SentLaws.{value_sent}
use Rattle.gj_coords.proofs.Readers.EventCounts.{depth_below}
use Rattle.gj_coords.proofs.Readers.WarningsOfElements.{IsShort}
use Rattle.gj_coords.proofs.Walks.WarningsOfLevels.{first_warned}

pub short : (v : Tree) → length (value_events v) < 2 ^ 64 → IsShort v
short v few = let h : length (value_events v) ≡ length _ = ap (λ (es : List Event). length es) (value_sent v) in omega arith

pub kept_is : (simple : Simple) (v : Tree) → length (value_events v) < 2 ^ 64 → coordinates_kept simple v ≡ warnings_of (coordinates_warnings simple v)
unfolding coordinates_kept
kept_is simple v few = first_warned simple v (short v few)

-- a LineString has the warnings of a MultiPoint
line_warned : (s : WholeSummary) → warned_as Simple.MultiPoint s ≡ warned_as Simple.LineString s
line_warned (other place) = refl
line_warned (level s) = refl

pub line_kept : (v : Tree) → coordinates_kept Simple.MultiPoint v ≡ coordinates_kept Simple.LineString v
unfolding coordinates_kept
line_kept v = ap all_in (line_warned (first_answer v))

pub countable : (v : Tree) → length (value_events v) < 2 ^ 64 → depth v < 2 ^ 64
countable v few =
    let h = short v few in
    let k = depth_below v in
    omega arith

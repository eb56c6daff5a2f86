-- One array of numbers after another, within an array: what was taken of the piece before, and the rest of it.
use Rattle.gj_json.proofs.Common.{AllByRecursion, Array, Event, FeedsAll, Flat, IsDueAt, IsFlat, IsWhite, List, Passed, Reader, Some, ValueDone}
use Rattle.gj_json.proofs.Common.{ValueDue, arith, cut, drop, flat_events, get_or, inner_of, length, length-take-le}
use Rattle.gj_json.proofs.Common.{subst, ℕ, ◌++◌, ◌+◌, ◌-◌, ◌<◌, ◌≡◌, ◌≤◌}
use Rattle.std.proofs.Common.{take}
use Rattle.gj_json.specs.Bytes.{comma}
use Rattle.gj_json.specs.Internal.OpenLevels.{levels_in}
use Rattle.gj_json.proofs.Pieces.PieceRests.{more_within}
use Rattle.gj_json.proofs.Pieces.TakenFlats.{flat_taken, comma_taken}
use Rattle.gj_json.proofs.Readers.CallsInTurn.{piece_all, piece_left}

module _ {first before : List Event → Type 0} (start old : Reader) (piece rest : List ℕ) (within : length rest ≤ length piece)
    (fed : FeedsAll first before start old (take (length piece - length rest) piece)) where
  pub depth_left : old.levels ≡ start.levels → length (levels_in start.levels) < start.limits.depth → length (levels_in old.levels) < old.limits.depth
  depth_left levels deep = rw (levels, fed.feeds.limits) deep

  pub room_left : start.offset + length piece ≤ start.limits.bytes → old.offset + length rest ≤ old.limits.bytes
  room_left room =
      let l = length-take-le (length piece - length rest) piece (omega arith) in
      let e = fed.offset in
      rw (fed.feeds.limits) (omega (arith, room))

module _ {first before after : List Event → Type 0} (start old new : Reader) (flat : Flat) (piece rest : List ℕ) (n : ℕ)
    (within : length rest ≤ length piece) (is : rest ≡ drop (length piece - length rest) piece)
    (fed : FeedsAll first before start old (take (length piece - length rest) piece)) (next : IsDueAt old.mode rest)
    (levels : old.levels ≡ start.levels) (deep : length (levels_in start.levels) < start.limits.depth)
    (inner : inner_of (levels_in start.levels) ≡ Some Array) (room : start.offset + length piece ≤ start.limits.bytes)
    (few : n ≤ length rest) (f : IsFlat flat old.offset (take n rest))
    (heard : (events : List Event) → before events → after (events ++ flat_events flat)) where
  pub goes_on : (k : ℕ) → 0 < k → k ≤ length (take (length rest - n) (drop n rest)) → get_or (take (length rest - n) (drop n rest)) 0 0 ≡ comma
      → AllByRecursion IsWhite (cut (take (length rest - n) (drop n rest)) 1 k) → Passed (n + k) ValueDue old new
      → FeedsAll first after start new (take (length piece - length (take (length rest - (n + k)) (drop (n + k) rest))) piece)
  goes_on k some enough byte white p =
      piece_left start old new piece rest (n + k) within is (more_within rest n k few enough) fed
      (comma_taken old new flat rest n k fed.live next.due (depth_left start old piece rest within fed levels deep)
      (room_left start old piece rest within fed room) few f some enough byte white (rw levels inner) p heard)

  pub ends : Passed n ValueDone old new → FeedsAll first after start new (take (length piece - length rest + n) piece)
  ends p =
      let P : List ℕ → Type 0 = λ xs. FeedsAll before after old new (take n xs) in
      piece_all start old new piece (length piece - length rest) n fed
      (subst P is (flat_taken old new flat rest n fed.live next.due (depth_left start old piece rest within fed levels deep)
      (room_left start old piece rest within fed room) few f p heard))

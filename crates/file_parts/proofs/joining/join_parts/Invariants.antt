use Rattle.file_parts.proofs.Common.{◌≤◌, ℕ, List, length, Allowed, Framing}
use Rattle.std.specs.Prelude.{◌*◌}
use Rattle.std.specs.List.{All}
use Rattle.file_parts.specs.Checked.{AreAllParts, HasAtMost, IsPartOf, records_in}
use Rattle.file_parts.specs.Internal.Covered.{GoTo}
use Rattle.file_parts.specs.Internal.JoinedSoFar.{IsJoinedTo}
use Rattle.file_parts.proofs.joining.join_parts.Given as goal

abbrev pub invariant-loop-part : goal.invariant-loop-part
invariant-loop-part l = record {
  joined : (framing : Framing) (limits : Allowed) (text : List ℕ) → All (IsPartOf framing limits text) l.parts → IsJoinedTo framing limits text l.end l.whole;
  within : l.part-index ≤ length l.parts;
  covered : (framing : Framing) (limits : Allowed) (text : List ℕ) → AreAllParts framing limits text l.parts
      → GoTo framing limits text (length l.parts) l.part-index l.end;
  few : (most : ℕ) → All (HasAtMost most) l.parts → records_in l.whole ≤ l.part-index * most;
}

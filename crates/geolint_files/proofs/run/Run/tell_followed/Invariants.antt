use Rattle.std.proofs.Common.{List, take}
use Rattle.geolint_files.specs.Internal.RunState.{TellsLines}
use Rattle.geolint_files.specs.Listed.{AreEntriesOf, IsMarkedBy}
use Rattle.geolint_files.specs.Run.{FeatureLine}
use Rattle.geolint_files.proofs.run.Run.tell_followed.Given as goal

-- the notes before this one are told
abbrev pub invariant-loop-index : goal.invariant-loop-index
invariant-loop-index g l =
    (lines : List FeatureLine) × AreEntriesOf (IsMarkedBy (g.F.Follower.says l.follower)) l.name (take l.index l.notes.notes.items) lines
    × TellsLines g.W.Write.contents lines l.initial.self l.self

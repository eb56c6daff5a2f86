use Rattle.std.proofs.Common.{arith, length, ap, length-append}
use Rattle.std.specs.Borrow.{Bor}
use Rattle.std.specs.Prelude.{ℕ, List, []}
use Rattle.geolint.proofs.RoomWrites.{joined-split}
use Rattle.geolint.proofs.room.Room.push_all.Goals as goal

-- stands for no piece
nothing : Bor (List ℕ)
nothing = record { ref_ptr = (0, 0); now = [] }

pub push-requires : goal.push-requires
unfolding nothing
push-requires c =
    let split = joined-split c.args.pieces.now c.loop-piece.piece-index nothing c.loop-piece-test.true in
    let long = ap length split in
    let done = ap length c.loop-piece.invariant.done in
    omega (arith, simp length-append at long, simp length-append at done)

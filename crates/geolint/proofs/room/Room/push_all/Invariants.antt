use Rattle.std.proofs.Common.{take, ◌++◌, ◌≡◌}
use Rattle.geolint.specs.Written.{joined}
use Rattle.geolint.specs.Room.{written_in}
use Rattle.geolint.proofs.room.Room.push_all.Given as goal

-- the pieces before this one are there
abbrev pub invariant-loop-piece : goal.invariant-loop-piece
invariant-loop-piece l = record {
  done : written_in l.self ≡ written_in l.initial.self ++ joined (take l.piece-index l.pieces);
}

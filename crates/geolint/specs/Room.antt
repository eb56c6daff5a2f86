-- What is written in a room.
use Rattle.std.specs.Prelude.{ℕ, List, ◌≡◌, ◌++◌}
use Rattle.geolint.specs.declared.room.Room.{Room}

abbrev pub written_in : Room → List ℕ
written_in room = room.bytes.items

-- these bytes were appended
abbrev pub Adds : Room → Room → List ℕ → Type 0
Adds old new bytes = written_in new ≡ written_in old ++ bytes

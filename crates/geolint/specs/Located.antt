-- What the search for the path to a place finds.
use Rattle.std.specs.Prelude.{◌≡◌, ℕ, ◌+◌, ◌<◌, ◌≤◌, ◌⊎◌, List, ◌++◌, Option, Some, None, IfSome, length, take}
use Rattle.std.specs.Io.KnownBytes.{Consumes}
use Rattle.gj_json.specs.declared.fault.JsonFault.{JsonFault}
use Rattle.gj_json.specs.declared.path.Path.{Path}
use Rattle.gj_json.specs.Limits.{Allowed}
use Rattle.gj_json.specs.Refusal.{IsRefusal}
use Rattle.gj_json.specs.Text.{IsText, IsViableWithin}
use Rattle.gj_json.specs.Tree.{Text}
use Rattle.gj_json.specs.Path.{steps_of, path_at}

-- the bytes up to the place, that at the place among them
abbrev pub up_to : ℕ → List ℕ → List ℕ
up_to place bytes = take (place + 1) bytes

abbrev pub IsPathTo : Allowed → ℕ → List ℕ → Option Path → Type 0
-- they are there, a prefix of a text within the depth and no more than are allowed, and lead to this value in each text that begins so
IsPathTo limits place bytes (Some path) =
    (place < length bytes) × (place < limits.bytes) × IsViableWithin limits.depth (up_to place bytes)
    × ((text : Text) (rest : List ℕ) → IsText text (up_to place bytes ++ rest) → steps_of path ≡ path_at (place + 1) text)
-- the input ends before, or is refused at one of them
IsPathTo limits place bytes None =
    (length bytes ≤ place) ⊎ ((fault : JsonFault) × ((more : List ℕ) → IsRefusal limits (up_to place bytes ++ more) fault))

-- What a reader has to give was `had` and is `left`: what was found is that in all its bytes, where it tells them.
abbrev pub Locates : Allowed → ℕ → (had left : Option (List ℕ)) → Option Path → Type 0
Locates limits place had left found = ((read : List ℕ) × Consumes had left read) × IfSome had (λ all. IsPathTo limits place all found)

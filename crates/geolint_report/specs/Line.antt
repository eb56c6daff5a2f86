-- What is added to the bytes of a report.
use Rattle.std.specs.Prelude.{◌≡◌, ℕ, Bool, true, false, List, ◌++◌, Option, Some, None, codes, Vec}
use Rattle.std.specs.Fmt.{decimal}
use Rattle.std.specs.List.{flat_map}
use Rattle.std.specs.Borrow.{Bor}
use Rattle.std.specs.declared.alloc.Global.{Global}

-- the bytes of slices, one after another
abbrev pub joined : List (Bor (List ℕ)) → List ℕ
joined pieces = flat_map (λ piece. piece.now) pieces

-- these bytes were appended
abbrev pub Adds : Vec ℕ Global → Vec ℕ Global → List ℕ → Type 0
Adds old new bytes = new.items ≡ old.items ++ bytes

abbrev pub optional_number : Option ℕ → List ℕ
optional_number (Some number) = decimal number
optional_number None = codes "null"

abbrev pub truth : Bool → List ℕ
truth true = codes "true"
truth false = codes "false"

-- Where and why an input is no admitted text.
use Rattle.std.specs.Prelude.{◌≡◌, ℕ, ◌≤◌, ◌<◌, List, [], ◌∷◌, ◌++◌, length}
use Rattle.gj_json.specs.Limits.{Allowed}
use Rattle.gj_json.specs.Tree.{Text}
use Rattle.gj_json.specs.Text.{IsTextWithin, IsViable, IsViableWithin}
use Rattle.gj_json.specs.declared.fault.JsonFault.{JsonFault}
use Rattle.gj_json.specs.declared.fault.Cause.{Cause}
use Rattle.gj_json.specs.declared.fault.Cause.TheVariants.{Syntax, Truncated, Depth, Length}

-- `place` splits the input: some more bytes, however many, make the bytes before it a text within the depth, and `byte` stands there
pub record Stops (limits : Allowed) (bytes : List ℕ) (place : ℕ) : Type 0 where
  pub good : List ℕ
  pub byte : ℕ
  pub rest : List ℕ
  pub split : bytes ≡ good ++ byte ∷ rest
  pub at : place ≡ length good
  pub viable : IsViableWithin limits.depth good

-- The cause says why the byte at the place is refused, or that the input ends too soon.
abbrev pub RefusedFor : Cause → Allowed → List ℕ → ℕ → Type 0
-- nothing makes the bytes up to that one a text, however deep it may nest
RefusedFor Syntax limits bytes place = (stop : Stops limits bytes place) × (place < limits.bytes) × (IsViable (stop.good ++ stop.byte ∷ []) → ⊥)
-- only texts that nest too deep begin with the bytes up to that one
RefusedFor Depth limits bytes place =
    (stop : Stops limits bytes place) × (place < limits.bytes) × IsViable (stop.good ++ stop.byte ∷ [])
    × (IsViableWithin limits.depth (stop.good ++ stop.byte ∷ []) → ⊥)
-- the byte is one too many, whatever it is
RefusedFor Length limits bytes place = Stops limits bytes place × (place ≡ limits.bytes)
-- no byte is refused, and the input is no text yet
RefusedFor Truncated limits bytes place =
    (place ≡ length bytes) × (place ≤ limits.bytes) × IsViableWithin limits.depth bytes × ((text : Text) → IsTextWithin limits.depth text bytes → ⊥)

abbrev pub IsRefusal : Allowed → List ℕ → JsonFault → Type 0
IsRefusal limits bytes fault = RefusedFor fault.cause limits bytes fault.place

-- a refusal by a byte, which holds whatever follows
abbrev pub IsByByte : Cause → Type 0
IsByByte Syntax = Unit {0}
IsByByte Depth = Unit {0}
IsByByte Length = Unit {0}
IsByByte Truncated = ⊥

-- an admitted text, no longer than allowed
abbrev pub IsAdmitted : Allowed → Text → List ℕ → Type 0
IsAdmitted limits text bytes = IsTextWithin limits.depth text bytes × (length bytes ≤ limits.bytes)

-- The refusal of an input, by its longest prefix, of no more bytes than are allowed, that some bytes more, however many, make a
-- text within the depth.
use Rattle.std.specs.Prelude.{◌≡◌, ◌≢◌, ℕ, ◌+◌, ◌≤◌, ◌<◌, ◌↔◌, List, length, take}
use Rattle.gj_json.specs.declared.fault.JsonFault.{JsonFault}
use Rattle.gj_json.specs.declared.fault.Cause.TheVariants.{Syntax, Truncated, Depth, Length}
use Rattle.gj_json.specs.Limits.{Allowed}
use Rattle.gj_json.specs.Tree.{Text}
use Rattle.gj_json.specs.Text.{IsText, IsViable, IsViableWithin}
use Rattle.gj_json.specs.Refusal.{IsRefusal, IsAdmitted}

-- Of the prefixes of at most as many bytes as allowed, the first k bytes are the longest that is viable within the depth.
pub record IsLongest (limits : Allowed) (bytes : List ℕ) (k : ℕ) : Type 0 where
  pub within : k ≤ length bytes
  pub allowed : k ≤ limits.bytes
  pub viable : IsViableWithin limits.depth (take k bytes)
  pub longest : (n : ℕ) → n ≤ length bytes → n ≤ limits.bytes → IsViableWithin limits.depth (take n bytes) → n ≤ k

-- What k, the length of that prefix, says of the input: one case for each cause, and one where nothing is refused.
pub record IsToldBy (limits : Allowed) (bytes : List ℕ) (k : ℕ) : Type 0 where
  -- the limit on the bytes is reached, and the input is longer
  pub too_long : IsRefusal limits bytes (record { place = k; cause = Length }) ↔ ((k ≡ limits.bytes) × (k < length bytes))
  -- else there is a next byte: only the limit on the depth refuses it
  pub too_deep : IsRefusal limits bytes (record { place = k; cause = Depth }) ↔ ((k ≢ limits.bytes) × (k < length bytes) × IsViable (take (k + 1) bytes))
  -- or it cannot stand there, however deep a text may nest
  pub wrong : IsRefusal limits bytes (record { place = k; cause = Syntax }) ↔ ((k ≢ limits.bytes) × (k < length bytes) × (IsViable (take (k + 1) bytes) → ⊥))
  -- else the prefix is the whole input, and that is no text
  pub cut_off : IsRefusal limits bytes (record { place = k; cause = Truncated }) ↔ ((k ≡ length bytes) × ((text : Text) → IsText text bytes → ⊥))
  -- else it is a text, and admitted
  pub admitted : ((text : Text) × IsAdmitted limits text bytes) ↔ ((k ≡ length bytes) × ((text : Text) × IsText text bytes))
  -- no other place is refused
  pub only_there : (fault : JsonFault) → IsRefusal limits bytes fault → fault.place ≡ k

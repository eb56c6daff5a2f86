-- Where an input of records may be cut in two: a text sequence before the first of some RS, and newline-delimited texts after an LF.
use Rattle.std.specs.Prelude.{◌≡◌, ℕ, ◌-◌, ◌<◌, List, [], ◌∷◌, length, Bool, true, false, ◌&&◌, not, nat_eq}
use Rattle.gj_json.specs.Limits.{Allowed}
use Rattle.gj_rules.specs.Records.{separator_of}
use Rattle.gj_rules.specs.declared.records.framing.Framing.{Framing}
use Rattle.gj_rules.specs.declared.records.framing.Framing.TheVariants.{Sequence, Lines}

abbrev pub separates : Framing → ℕ → Bool
separates framing byte = nat_eq byte (separator_of framing)

-- whether the first byte is a separator, or the last one
abbrev pub separator_first : Framing → List ℕ → Bool
separator_first framing [] = false
separator_first framing (byte ∷ more) = separates framing byte

abbrev pub separator_last : Framing → List ℕ → Bool
separator_last framing [] = false
separator_last framing (byte ∷ []) = separates framing byte
separator_last framing (byte ∷ next ∷ more) = separator_last framing (next ∷ more)

-- whether a part may begin with a byte, given whether the byte before it is a separator, and whether it is one itself
abbrev pub may_begin : Framing → Bool → Bool → Bool
may_begin Sequence follows separates = separates && not follows
may_begin Lines follows separates = follows

-- The first part is shorter than the limit, so that the limit cuts the second part, or none.
pub record ArePartsOf (framing : Framing) (limits : Allowed) (first second : List ℕ) : Type 0 where
  pub cut : may_begin framing (separator_last framing first) (separator_first framing second) ≡ true
  pub within : length first < limits.bytes

-- what the limit leaves to the bytes after so many
abbrev pub limits_after : Allowed → ℕ → Allowed
limits_after limits end = record { depth = limits.depth; bytes = limits.bytes - end }

-- In what two lines agree of which the same object says all members: in all but the kinds that are allowed and the count of each code.
use Rattle.std.specs.Prelude.{◌≡◌, Option, Some, None, string_bytes}
use Rattle.part_lines.specs.declared.line.FileState.{FileState}
use Rattle.part_lines.specs.declared.line.Listed.{Listed}
use Rattle.part_lines.specs.declared.line.PartLine.{PartLine}

pub record IsSameFile (one other : FileState) : Type 0 where
  pub path : string_bytes one.path ≡ string_bytes other.path
  pub size : one.size ≡ other.size
  pub modified : string_bytes one.modified ≡ string_bytes other.modified

pub record AreSameNotes (one other : Listed) : Type 0 where
  pub asked : one.asked ≡ other.asked
  pub notes : one.notes.notes.items ≡ other.notes.notes.items
  pub count : one.notes.count ≡ other.notes.count
  pub items : one.notes.tally.items ≡ other.notes.tally.items
  pub broken : one.notes.tally.broken ≡ other.notes.tally.broken

abbrev pub AreSameIf : Option Listed → Option Listed → Type 0
AreSameIf (Some one) (Some other) = AreSameNotes one other
AreSameIf None None = Unit {0}
AreSameIf _ _ = ⊥

pub record Agree (one other : PartLine) : Type 0 where
  pub file : IsSameFile one.file other.file
  pub framing : one.settings.framing ≡ other.settings.framing
  pub limits : one.settings.limits ≡ other.settings.limits
  pub strict : one.settings.strictness.strict ≡ other.settings.strictness.strict
  pub number : one.share.number ≡ other.share.number
  pub parts : one.share.parts ≡ other.share.parts
  pub checked : one.checked ≡ other.checked
  pub listed : AreSameIf one.listed other.listed

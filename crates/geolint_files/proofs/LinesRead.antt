-- What the line of a part says of the bytes of its source.
use Rattle.geolint_files.proofs.Common.{arith, ◌≡◌, ℕ, List, Option, Some, None, ap, sym, subst, refl, ◌∙◌, length, asked_in, Options}
use Rattle.std.proofs.Common.{◌≤◌, inl, inr}
use Rattle.std.specs.Prelude.{IfSome, option_map}
use Rattle.std.proofs.lemmas.Bool.{cases_lt}
use Rattle.gj_json.specs.Limits.{Allowed}
use Rattle.gj_rules.specs.declared.records.framing.Framing.{Framing}
use Rattle.geolint_report.specs.declared.every.listing.Asked.{Asked}
use Rattle.geolint_report.specs.declared.every.listing.Notes.{Notes}
use Rattle.part_lines.specs.declared.line.Listed.{Listed}
use Rattle.part_lines.specs.declared.line.PartLine.{PartLine}
use Rattle.file_parts.specs.Likely.{HasRun}
use Rattle.file_parts.specs.Sums.{IsTruePart}
use Rattle.file_parts.specs.Checked.{IsPartOf, AreNotesOfPart}
use Rattle.file_parts.specs.Ranges.{ArePart}
use Rattle.file_parts.specs.declared.checked.CheckedPart.{CheckedPart}
use Rattle.file_parts.specs.declared.ranges.Share.{Share}
use Rattle.geolint_files.specs.AskedLine.{IsReadLine, IsReadLineBy, listed_of}

listed-asked : (framing : Framing) (limits : Allowed) (text : List ℕ) (part : CheckedPart) (asked : Option Asked) (notes : Option Notes)
    → part.begin ≤ part.end → AreNotesOfPart framing limits asked text part notes
    → option_map (λ (l : Listed). l.asked) (listed_of asked notes) ≡ asked
listed-asked framing limits text part (Some asked) (Some notes) ordered are = refl
listed-asked framing limits text part (Some asked) None ordered are = elim (cases_lt part.begin part.end) [
  | inl less ↦ absurd (are.some less)
  | inr not_less ↦ absurd (are.empty (omega (arith, ordered, not_less)))
]
listed-asked framing limits text part None notes ordered are = refl

abbrev IsNothing : Option Listed → Type 0
IsNothing None = Unit {0}
IsNothing (Some listed) = ⊥

listed-notes : (framing : Framing) (limits : Allowed) (text : List ℕ) (part : CheckedPart) (asked : Option Asked) (notes : Option Notes)
    → AreNotesOfPart framing limits asked text part notes → (listed : Listed) → listed_of asked notes ≡ Some listed
    → AreNotesOfPart framing limits (Some listed.asked) text part (Some listed.notes)
listed-notes framing limits text part (Some asked) (Some notes) are listed is =
    let it : Listed = record { asked = asked; notes = notes } in
    let same : it ≡ listed = cc in
    subst (λ (l : Listed). AreNotesOfPart framing limits (Some l.asked) text part (Some l.notes)) same are
listed-notes framing limits text part (Some asked) None are listed is = absurd (subst IsNothing is tt)
listed-notes framing limits text part None notes are listed is = absurd (subst IsNothing is tt)

pub line-read : (known : Option (List ℕ)) (framing : Framing) (options : Options) (asked : Option Asked) (share : Share) (part : CheckedPart)
    (notes : Option Notes) (line : PartLine) → asked ≡ asked_in options → line.checked ≡ part → line.listed ≡ listed_of asked notes
    → line.settings.framing ≡ Some framing
    → IfSome known (λ text. length text ≡ line.file.size → ArePart framing options.limits text share.number share.parts part.begin part.end)
    → IfSome known (λ text. length text ≡ line.file.size → IsPartOf framing options.limits text part)
    → IfSome known (λ text. AreNotesOfPart framing options.limits asked text part notes)
    → IfSome known (λ text. length text ≡ line.file.size → IsReadLine framing options share text line)
line-read None framing options asked share part notes line is_asked is_part is_listed framed bytes right are = tt
line-read (Some text) framing options asked share part notes line is_asked is_part is_listed framed bytes right are = λ long. record {
  bytes = subst (λ (p : CheckedPart). ArePart framing options.limits text share.number share.parts p.begin p.end) (sym is_part) (bytes long);
  says = record {
    line_of = record { size = long; framed = framed; part = subst (IsPartOf framing options.limits text) (sym is_part) (right long) };
    notes_of = λ listed is.
        subst (λ (p : CheckedPart). AreNotesOfPart framing options.limits (Some listed.asked) text p (Some listed.notes)) (sym is_part)
        (listed-notes framing options.limits text part asked notes are listed (sym is_listed ∙ is));
  };
  listed = ap (λ (o : Option Listed). option_map (λ (l : Listed). l.asked) o) is_listed
      ∙ (listed-asked framing options.limits text part asked notes (right long).ordered are ∙ is_asked);
}

pub one-text-read : (known : Option (List ℕ)) (options : Options) (share : Share) (line : PartLine) → line.settings.framing ≡ None → line.listed ≡ None
    → IfSome known (λ text. IsTruePart options.limits text line.checked) → IfSome known (λ text. HasRun options.limits text share line.file.size line.checked)
    → IfSome known (λ text. IsReadLineBy None options share text line)
one-text-read None options share line framed listed is has = tt
one-text-read (Some text) options share line framed listed is has = (framed, listed, is, has)

pub of-length : (known : Option (List ℕ)) (size : ℕ) (Is : List ℕ → Type 0) → IfSome known Is → IfSome known (λ text. length text ≡ size → Is text)
of-length None size Is is = tt
of-length (Some text) size Is is = λ long. is

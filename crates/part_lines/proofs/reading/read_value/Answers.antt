use Rattle.part_lines.proofs.Common.{codes, refl, subst, Framing}
use Rattle.std.proofs.Common.{Option}
use Rattle.serde_json.specs.View.{view}
use Rattle.part_lines.specs.LineObject.{text_in, IsCheckedIn}
use Rattle.part_lines.proofs.LinesAgree.{both-said, same-framing}
use Rattle.part_lines.proofs.reading.read_value.Goals as goal

pub returns-in_default-read_checked-clause-refused : goal.returns-in_default-read_checked-clause-refused
returns-in_default-read_checked-clause-refused c = λ _ line none is.
    let it = view c.args.value.now in
    let read = c.in-Some-read_settings in
    let same = same-framing line.settings.framing read.settings.framing (both-said (text_in (codes "framing") it) _ _ is.settings.framing
    read.ensures.some.framing) in
    c.in_default-read_checked.ensures.none refl line.checked (subst (λ (f : Option Framing). IsCheckedIn it f line.checked) same is.checked)

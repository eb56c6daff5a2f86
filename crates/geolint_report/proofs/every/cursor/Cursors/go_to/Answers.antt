use Rattle.geolint_report.proofs.Common.{subst, ◌∙◌, Option, Framing}
use Rattle.std.specs.Prelude.{IfOk, IfSome}
use Rattle.geolint_report.specs.Marks.{IsMarkBy}
use Rattle.geolint_report.proofs.every.cursor.Cursors.go_to.Goals as goal

pub returns-clause-stand : goal.returns-clause-stand
returns-clause-stand g c = λ framing stand.
    let ((ahead, behind), stands, rests) = c.begin.ensures framing (g.S.Source.text c.args.source.now) stand in
    ((c.go_to.ensures.framing ∙ ahead, behind), c.go_to.ensures.stands stands, rests)

pub returns-clause-mark : goal.returns-clause-mark
returns-clause-mark g c = λ framing stand.
    let text = g.S.Source.text c.args.source.now in
    let ((ahead, behind), stands, rests) = c.begin.ensures framing text stand in
    subst (λ (f : Option Framing). IfOk c.go_to.result (λ found. IfSome found (λ mark. IsMarkBy f text c.args.note.now.told.place mark))) ahead
    (c.go_to.ensures.mark stands)

use Rattle.geolint_files.proofs.run.features.find.Goals as goal

pub returns-in-Ok-Some-clause-mark : goal.returns-in-Ok-Some-clause-mark
returns-in-Ok-Some-clause-mark g c = λ framing stand.
    let right = rw c.in-Ok-Some.field-0-is at c.in-Ok-Some.ensures.mark in
    c.told_mark.ensures.mark framing (g.S.Source.text c.args.source.now) c.args.note.now.told.place (right framing stand)

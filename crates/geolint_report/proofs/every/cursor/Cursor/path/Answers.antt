use Rattle.geolint_report.proofs.every.cursor.Cursor.path.Goals as goal

pub returns : goal.returns
returns c = λ front passed. c.path.ensures.is front passed.follows

use Rattle.geolint_report.proofs.CursorPlaces.{IsMarkBy-bare}
use Rattle.geolint_report.proofs.every.cursor.Mark.without_path.Goals as goal

pub returns-clause-mark : goal.returns-clause-mark
returns-clause-mark c = λ framing text place is. IsMarkBy-bare framing text place c.args.self is

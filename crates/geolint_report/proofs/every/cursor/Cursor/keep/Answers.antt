use Rattle.geolint_report.proofs.every.cursor.Cursor.keep.Goals as goal

pub returns-clause-passed : goal.returns-clause-passed
returns-clause-passed c = λ front passed.
    let after = c.pass.ensures.passed front passed in
    record { lines = after.lines; follows = after.follows }

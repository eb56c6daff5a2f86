use Rattle.std.proofs.Common.{arith, ◌≡◌, ◌∙◌, length}
use Rattle.geolint_report.proofs.CursorPlaces.{StandsBy-kept, StandsBy-ended}
use Rattle.geolint_report.proofs.every.cursor.Cursor.mark.Goals as goal

pub returns-then-count-gt0-clause-stands : goal.returns-then-count-gt0-clause-stands
returns-then-count-gt0-clause-stands g c = λ was begun.
    let piece = c.read_from.new.piece in
    let bound = c.in_ok-count.ensures.bound.0 in
    let one : length piece ≡ 1 = omega (arith, c.in_ok-count.ensures.bound) in
    let (mark, last, here, line, column, leads) = c.keep.ensures.last in
    StandsBy-kept (g.S.Source.text c.args.source.now) piece c.in_ok-count.count c.args.place mark c.args.self.now c.keep.new.self bound
    (omega (arith, c.if-count-gt0.true)) one c.in_ok-count.ensures.bytes was
    (c.keep.ensures.count (omega (arith, one, was, c.requires)) ∙ omega (arith, one, was)) (λ front is. c.keep.ensures.passed front is) last here line column
    (λ front is. leads front is) begun

pub returns-else-count-gt0-clause-stands : goal.returns-else-count-gt0-clause-stands
returns-else-count-gt0-clause-stands g c = λ was begun.
    let (mark, last, here, line, column, none) = c.keep_end.ensures.last in
    StandsBy-ended (g.S.Source.text c.args.source.now) c.args.place mark c.args.self.now c.keep_end.new.self was c.keep_end.ensures.passed
    c.keep_end.ensures.lines c.keep_end.ensures.path last here line column none begun

use Rattle.std.proofs.lemmas.List.{append-nil}
use Rattle.gj_hints.specs.Expected.{IsAfter}
use Rattle.gj_hints.proofs.expected.expected_after.Goals as goal

pub returns-then-tells_all : goal.returns-then-tells_all
returns-then-tells_all c = λ bytes stands few.
    let after : IsAfter c.args.reader.now bytes = record {
      stands = stands;
      viable = rw append-nil at ((c.in-Ok.ensures.answer bytes stands).0);
      few = few;
    } in
    record { named = c.tells_all.ensures c.if-tells_all.true bytes after; may_end = c.may_end-may_end.ensures bytes stands }

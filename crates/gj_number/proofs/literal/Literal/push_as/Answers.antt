use Rattle.gj_number.proofs.Common.{None, Some, next_of, start, sym, taken, ◌∙◌, ◌≡◌}
use Rattle.gj_number.specs.Internal.NumberMachine.{class_of}
use Rattle.gj_number.specs.Literal.{StandsFor}
use Rattle.gj_number.proofs.Grammar.ScanPaths.{reaches_one}
use Rattle.gj_number.proofs.Literals.LiteralBytes.{begins, begins_none}
use Rattle.gj_number.proofs.literal.Literal.push_as.Goals as goal

pub returns-in-Some-clause-stands : goal.returns-in-Some-clause-stands
unfolding StandsFor
returns-in-Some-clause-stands c bytes h e =
    let n : next_of h.0.state (class_of c.args.byte) ≡ Some c.in-Some.state = rw (← h.2.state, ← c.requires) (sym c.next.ensures ∙ c.in-Some.is) in
    (taken c.in-Some.state c.args.byte h.0, reaches_one start h.0 bytes c.args.byte c.in-Some.state h.1 n, c.take.ensures h.0 h.2)

pub returns-in-Some-clause-begins : goal.returns-in-Some-clause-begins
unfolding StandsFor
returns-in-Some-clause-begins c bytes h e =
    let n : next_of h.0.state (class_of c.args.byte) ≡ Some c.in-Some.state = rw (← h.2.state, ← c.requires) (sym c.next.ensures ∙ c.in-Some.is) in
    begins _ (taken c.in-Some.state c.args.byte h.0) (reaches_one start h.0 bytes c.args.byte c.in-Some.state h.1 n)

pub returns-in-None-clause-refused : goal.returns-in-None-clause-refused
unfolding StandsFor
returns-in-None-clause-refused c bytes h e =
    let n : next_of h.0.state (class_of c.args.byte) ≡ None = rw (← h.2.state, ← c.requires) (sym c.next.ensures ∙ c.in-None.is) in
    begins_none bytes c.args.byte h.0 h.1 n

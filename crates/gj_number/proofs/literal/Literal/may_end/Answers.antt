use Rattle.gj_number.proofs.Common.{ap, may_end_in, ◌∙◌, ◌≡◌}
use Rattle.gj_number.specs.Literal.{StandsFor}
use Rattle.gj_number.proofs.Literals.LiteralBytes.{may_end_is}
use Rattle.gj_number.proofs.literal.Literal.may_end.Goals as goal

pub returns : goal.returns
unfolding StandsFor
returns c = record {
  number = (λ bytes h.
      let e : c.may_end.result ≡ may_end_in h.0.state = c.may_end.ensures ∙ ap may_end_in h.2.state in
      rw e (may_end_is bytes h.0 h.1));
}

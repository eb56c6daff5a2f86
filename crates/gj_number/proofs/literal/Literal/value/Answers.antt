use Rattle.gj_number.proofs.Common.{sym, ◌∙◌}
use Rattle.gj_number.specs.Literal.{StandsFor}
use Rattle.gj_number.proofs.Literals.LiteralBytes.{value_by}
use Rattle.gj_number.proofs.literal.Literal.value.Goals as goal

pub returns : goal.returns
unfolding StandsFor
returns c = record {
  value = (λ bytes h n.
      let v = value_by bytes h.0 h.1 n in
      let made = c.decimal.ensures v.0 h.0.whole h.0.fraction h.0.exponent h.2.digits v.1 h.2.exponent in
      rw (h.2.negative, h.2.exponent_negative) at made ∙ sym v.2);
}

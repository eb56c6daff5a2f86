use Rattle.gj_number.proofs.Common.{refl, start}
use Rattle.gj_number.specs.Literal.{StandsFor}
use Rattle.gj_number.proofs.literal.Literal.new.Goals as goal

pub returns : goal.returns
unfolding StandsFor
returns c = record {
  stands = (
    start,
    refl,
    record { state = refl; negative = refl; digits = c.new.ensures; exponent_negative = refl; exponent = refl; before_fraction = (λ _. refl) },
  );
}

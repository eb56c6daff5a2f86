-- No feature is complete in no bytes.
use Rattle.std.proofs.Common.{arith}
use Rattle.gj_rules.specs.FeatureLinter.{offset_of}
use Rattle.geolint_c.proofs.features.judging_again.Goals as goal

pub returns : goal.returns
returns c = (
  record {
    stands = c.begin_again.ensures.stands;
    under = c.begin_again.ensures.limits;
    room = λ text rest t few.
        let n = c.few_features.ensures text _ (offset_of c.begin_again.new.self) t.0 in
        let o = c.begin_again.ensures.offset in
        (omega arith, omega (arith, n, o));
  },
  c.begin_again.ensures.refusal,
)

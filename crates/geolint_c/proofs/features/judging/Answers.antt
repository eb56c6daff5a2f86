-- No feature is complete in no bytes.
use Rattle.std.proofs.Common.{arith}
use Rattle.gj_rules.specs.FeatureLinter.{offset_of}
use Rattle.geolint_c.proofs.features.judging.Goals as goal

pub returns : goal.returns
returns c = (
  record {
    stands = c.new-2.ensures.stands c.new.ensures;
    under = c.new-2.ensures.limits;
    room = λ text rest t few.
        let n = c.few_features.ensures text _ (offset_of c.new-2.result) t.0 in
        let o = c.new-2.ensures.offset in
        (omega arith, omega (arith, n, o));
  },
  c.new-2.ensures.refusal,
)

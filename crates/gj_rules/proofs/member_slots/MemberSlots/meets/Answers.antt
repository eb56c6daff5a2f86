-- The bits meet what is asked where nothing is wrong with the members, and only there.
use Rattle.gj_rules.proofs.Common.{arith, bit_and, nat_tests}
use Rattle.std.proofs.Common.{◌≡◌}
use Rattle.gj_rules.proofs.Objects.MetRules.{same_none, meets_is}
use Rattle.gj_rules.proofs.member_slots.MemberSlots.meets.Goals as goal

pub returns-then-self-rules-eq0 : goal.returns-then-self-rules-eq0
returns-then-self-rules-eq0 c =
    let m = meets_is c.args.self.now c.of-rules.result c.args.word c.of-rules.ensures in
    rw (← c.of-rules.ensures) (same_none _ _ (
      λ t. m.0 (record {
        due = c.if-self-rules.true;
        forbidden = c.if-self-rules-eq0.true;
        used = grind (arith, nat_tests);
      }),
      λ e. (let met = m.1 e in let used : bit_and (bit_and c.args.self.now.present c.args.self.now.faulty) c.of-rules.result.used ≡ 0 = met.used in
          grind (arith, nat_tests)),
    ))

pub returns-else-self-rules-eq0 : goal.returns-else-self-rules-eq0
returns-else-self-rules-eq0 c =
    let m = meets_is c.args.self.now c.of-rules.result c.args.word c.of-rules.ensures in
    rw (← c.of-rules.ensures) (same_none _ _ (λ t. absurd (grind (arith, nat_tests)), λ e. absurd (c.if-self-rules-eq0.false (m.1 e).forbidden)))

pub returns-else-self-rules : goal.returns-else-self-rules
returns-else-self-rules c =
    let m = meets_is c.args.self.now c.of-rules.result c.args.word c.of-rules.ensures in
    rw (← c.of-rules.ensures) (same_none _ _ (λ t. absurd (grind (arith, nat_tests)), λ e. absurd (c.if-self-rules.false (m.1 e).due)))

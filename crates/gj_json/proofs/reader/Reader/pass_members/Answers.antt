-- The members, one after another.
use Rattle.gj_json.proofs.Common.{arith, refl}
use Rattle.gj_json.proofs.Pieces.TokensInLevels.{then_any}
use Rattle.gj_json.proofs.reader.Reader.pass_members.Goals as goal

pub returns-then-count-eq0 : goal.returns-then-count-eq0
returns-then-count-eq0 c = then_any c.loop-at.invariant.taken c.pass_member_or_white-count.ensures c.loop-at.invariant.few

pub loop-at-preserved : goal.loop-at-preserved
loop-at-preserved c =
    let i = c.loop-at.invariant in
    let m = c.pass_member_or_white-count.ensures in
    record {
      due = rw (c.in-NameDue.is) refl;
      few = omega (arith, i.few, m.holds.named c.in-NameDue.is);
      taken = then_any i.taken m i.few;
    }

pub returns-in_default : goal.returns-in_default
returns-in_default c = then_any c.loop-at.invariant.taken c.pass_member_or_white-count.ensures c.loop-at.invariant.few

-- What was passed over does not matter to the sink.
use Rattle.gj_json.proofs.Common.{Leaves, above, arith, subst, sym, ◌-◌, ◌≡◌}
use Rattle.gj_json.proofs.Readers.CallsInTurn.{prefix_as}
use Rattle.gj_json.proofs.Events.IgnoredEvents.{all_as}
use Rattle.gj_json.proofs.Pieces.PassedMembers.{names_all}
use Rattle.gj_json.proofs.reader.Reader.pass_ignored.Goals as goal

pub returns : goal.returns
returns g c =
    let old = c.args.self.now in
    let t = c.pass_tokens-count in
    let floor = c.len-open.result - c.ignored-ignored.result in
    let m : above floor old ≡ g.S.EventSink.ignores c.args.sink.now = omega (arith, c.len-open.ensures.value, c.ignored-ignored.ensures) in
    let n : c.len.result - floor ≡ above floor t.new.self = omega (arith, c.len.ensures.value) in
    prefix_as t.ensures.taken (λ given f.
    all_as {before = g.S.EventSink.heard c.args.sink.now} {after = g.S.EventSink.heard c.pass.new.self} (above floor old) (above floor t.new.self) old
    t.new.self given
    (λ events inner h l.
    let k : Leaves (above floor old) inner (c.len.result - floor) = subst (λ x. Leaves (above floor old) inner x) (sym n) l in
    c.pass.ensures events inner (omega (arith, c.ignored-ignored.ensures)) h (subst (λ x. Leaves x inner (c.len.result - floor)) m k))
    (names_all old t.new.self given f))

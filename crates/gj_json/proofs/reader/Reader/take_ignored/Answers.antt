-- What was passed over does not matter to the sink.
use Rattle.gj_json.proofs.Common.{Leaves, above, arith, subst, sym, ◌-◌, ◌≡◌}
use Rattle.gj_json.proofs.Events.IgnoredEvents.{ignored_by}
use Rattle.gj_json.proofs.reader.Reader.take_ignored.Goals as goal

pub returns : goal.returns
returns g c =
    let old = c.args.self.now in
    let new = c.take_within-taken.new.self in
    let floor = c.len-open.result - c.ignored-ignored.result in
    let m : above floor old ≡ g.S.EventSink.ignores c.args.sink.now = omega (arith, c.len-open.ensures.value, c.ignored-ignored.ensures) in
    let n : c.len.result - floor ≡ above floor new = omega (arith, c.len.ensures.value) in
    ignored_by (g.S.EventSink.heard c.args.sink.now) (g.S.EventSink.heard c.pass.new.self) (above floor old)
    (above floor new) old new c.args.piece.now c.take_within-taken.result
    (λ events inner h l.
    let k : Leaves (above floor old) inner (c.len.result - floor) = subst (λ x. Leaves (above floor old) inner x) (sym n) l in
    c.pass.ensures events inner (omega (arith, c.ignored-ignored.ensures)) h (subst (λ x. Leaves x inner (c.len.result - floor)) m k))
    c.take_within-taken.ensures.taken

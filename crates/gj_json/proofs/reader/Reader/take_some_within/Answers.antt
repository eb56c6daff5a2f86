-- Quiet bytes, and then one byte, within levels that are open.
use Rattle.gj_json.proofs.Common.{Event, Leaves, List, above, arith, length, ◌<◌}
use Rattle.gj_json.proofs.Readers.CallsInTurn.{front_skipped, prefix_as, some_all, some_to}
use Rattle.gj_json.proofs.Events.IgnoredEvents.{byte_floor, takes_within, all_from, to_from}
use Rattle.gj_json.proofs.reader.Reader.take_some_within.Goals as goal

pub returns-then-quiet-piece-clause-taken : goal.returns-then-quiet-piece-clause-taken
returns-then-quiet-piece-clause-taken c =
    let old = c.args.self.now in
    let mid = c.skip_front-quiet.new.self in
    let s = c.skip_front-quiet.ensures in
    let P : List Event → Type 0 = λ events. Leaves (above c.args.floor old) events (above c.args.floor mid) in
    (omega arith, prefix_as (front_skipped {heard = P} c.requires.takes s) (λ given f. all_from c.args.floor old mid mid given s.holds.levels f))

pub returns-in-Ok : goal.returns-in-Ok
returns-in-Ok c =
    let floor = c.args.floor in
    let old = c.args.self.now in
    let mid = c.skip_front-quiet.new.self in
    let new = c.take_byte.new.self in
    let s = c.skip_front-quiet.ensures in
    let w : c.skip_front-quiet.result < length c.args.piece.now = omega (arith, s.within, c.if-quiet-piece.false) in
    let e = s.holds.levels in
    let P : List Event → Type 0 = λ events. Leaves (above floor old) events (above floor mid) in
    let taken = some_all w c.requires.takes (front_skipped {heard = P} c.requires.takes s)
    (takes_within floor old mid new _ c.take_byte.result e c.requires.above c.take_byte.ensures) c.in-Ok.field-0 c.in-Ok.is in
    record {
      floor = byte_floor floor old mid new _ c.take_byte.result e c.requires.above c.take_byte.ensures;
      taken = (omega arith, prefix_as taken (λ given f. all_from floor old mid new given e f));
    }

pub returns-in-Err : goal.returns-in-Err
returns-in-Err c =
    let floor = c.args.floor in
    let old = c.args.self.now in
    let mid = c.skip_front-quiet.new.self in
    let new = c.take_byte.new.self in
    let s = c.skip_front-quiet.ensures in
    let w : c.skip_front-quiet.result < length c.args.piece.now = omega (arith, s.within, c.if-quiet-piece.false) in
    let e = s.holds.levels in
    let P : List Event → Type 0 = λ events. Leaves (above floor old) events (above floor mid) in
    record {
      floor = byte_floor floor old mid new _ c.take_byte.result e c.requires.above c.take_byte.ensures;
      taken = to_from floor old mid new c.args.piece.now c.in-Err.fault e (some_to w c.requires.takes (front_skipped {heard = P} c.requires.takes s)
          (takes_within floor old mid new _ c.take_byte.result e c.requires.above c.take_byte.ensures) c.in-Err.fault c.in-Err.is);
    }

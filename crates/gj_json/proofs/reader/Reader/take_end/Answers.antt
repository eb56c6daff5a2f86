-- The byte after a value.
use Rattle.gj_json.proofs.Common.{Array, Close, Go, Item, Level, NameDue, Object, Some, ValueDue, after_move, ap, get_or, inner_of, refl, sym}
use Rattle.gj_json.proofs.Common.{◌∙◌, ◌≡◌}
use Rattle.gj_json.specs.Internal.ByteClasses.{class_of}
use Rattle.gj_json.specs.Internal.OpenLevels.{levels_in}
use Rattle.gj_json.proofs.Readers.CallsInTurn.{of_prefix}
use Rattle.gj_json.proofs.Pieces.TakenTokens.{closes_value, end_goes, end_closes}
use Rattle.gj_json.proofs.Pieces.TokensInLevels.{comma_ends, any_goes, any_closes, then_skipped, any_skipped}
use Rattle.gj_json.proofs.reader.Reader.take_end.Goals as goal

pub returns-in-Some-Array : goal.returns-in-Some-Array
returns-in-Some-Array g c =
    let old = c.args.self.now in
    let new = c.skip.new.self in
    let piece = c.args.piece.now in
    let r = c.requires in
    let p = c.skip.ensures.passed in
    let inner : inner_of (levels_in old.levels) ≡ Some Array =
    sym c.inner.ensures ∙ c.in-Some-Array.is ∙ ap (λ (x : Level). Some x) c.in-Some-Array.field-0-is in
    let made = comma_ends (inner_of (levels_in old.levels)) (get_or piece 0 0) Array ValueDue inner c.if-piece-eq44.true refl in
    rw (c.skip.ensures.count)
    (record {
      all = of_prefix r.some (end_goes old new piece ValueDue Item r.some r.takes.0 r.done r.takes.1 made p);
      any = of_prefix r.some (any_goes old new piece r.some r.takes.0 r.done r.takes.1 ValueDue Item made p);
    })

pub returns-in-Some-Object : goal.returns-in-Some-Object
returns-in-Some-Object g c =
    let old = c.args.self.now in
    let mid = c.skip-taken.new.self in
    let piece = c.args.piece.now in
    let r = c.requires in
    let p = c.skip-taken.ensures.passed in
    let n = c.skip-taken.ensures.count in
    let s = c.skip_space in
    let inner : inner_of (levels_in old.levels) ≡ Some Object =
    sym c.inner.ensures ∙ c.in-Some-Object.is ∙ ap (λ (x : Level). Some x) c.in-Some-Object.field-0-is in
    let made = comma_ends (inner_of (levels_in old.levels)) (get_or piece 0 0) Object NameDue inner c.if-piece-eq44.true refl in
    record {
      all = then_skipped old mid s.new.self piece c.skip-taken.result s.result NameDue r.takes (rw n p) s.ensures
          (rw n (of_prefix r.some (end_goes old mid piece NameDue Item r.some r.takes.0 r.done r.takes.1 made p)));
      any = any_skipped old mid s.new.self piece c.skip-taken.result s.result NameDue r.takes (rw n p) s.ensures
          (rw n (of_prefix r.some (any_goes old mid piece r.some r.takes.0 r.done r.takes.1 NameDue Item made p)));
    }

pub returns-in-Go : goal.returns-in-Go
returns-in-Go g c =
    let old = c.args.self.now in
    let new = c.skip-in-Go.new.self in
    let piece = c.args.piece.now in
    let r = c.requires in
    let p = c.skip-in-Go.ensures.passed in
    let mode = c.in-Go.mode in
    let made : after_move (inner_of (levels_in old.levels)) (class_of (get_or piece 0 0)) ≡ Go mode c.in-Go.field-1 =
    ap (λ i. after_move i (class_of (get_or piece 0 0))) (sym c.inner-2.ensures) ∙ sym c.after_value.ensures.value ∙ c.in-Go.is in
    rw (c.skip-in-Go.ensures.count)
    (record {
      all = of_prefix r.some (end_goes old new piece mode c.in-Go.field-1 r.some r.takes.0 r.done r.takes.1 made p);
      any = of_prefix r.some (any_goes old new piece r.some r.takes.0 r.done r.takes.1 mode c.in-Go.field-1 made p);
    })

pub returns-in-Close : goal.returns-in-Close
returns-in-Close g c =
    let old = c.args.self.now in
    let new = c.take_close.new.self in
    let piece = c.args.piece.now in
    let r = c.requires in
    let e = c.take_close.ensures in
    let level = c.in-Close.level in
    let inner = inner_of (levels_in old.levels) in
    let b = get_or piece 0 0 in
    let made : after_move inner (class_of b) ≡ Close level =
    ap (λ i. after_move i (class_of b)) (sym c.inner-2.ensures) ∙ sym c.after_value.ensures.value ∙ c.in-Close.is in
    let closes = closes_value old.mode inner b level r.done made in
    rw (e.count)
    (record {
      all = of_prefix r.some (end_closes old new piece level r.some r.takes.0 r.takes.1 closes e.lands (λ events h. e.heard events h));
      any = of_prefix r.some (any_closes old new piece level r.some r.takes.0 r.takes.1 closes e.lands);
    })

-- An opening bracket.
use Rattle.gj_json.proofs.Common.{Event, Lands, List, ap, arith, event_at, length, opened, opening_of, ◌<◌, [], ◌∙◌, ◌∷◌, ◌≡◌}
use Rattle.std.proofs.Common.{take}
use Rattle.gj_json.specs.Internal.OpenLevels.{levels_in}
use Rattle.gj_json.proofs.Readers.CallsInTurn.{of_prefix}
use Rattle.gj_json.proofs.Pieces.TakenTokens.{open_taken}
use Rattle.gj_json.proofs.Pieces.TokensInLevels.{from_none, any_opened}
use Rattle.gj_json.proofs.reader.Reader.take_open.Goals as goal

pub returns : goal.returns
returns g c =
    let old = c.args.self.now in
    let new = c.skip.new.self in
    let level = c.args.level in
    let r = c.requires in
    let p = c.skip.ensures.passed in
    let more = ap levels_in p.levels ∙ c.push.ensures in
    let deep : length (levels_in old.levels) < old.limits.depth = omega (arith, c.if-len-depth.false, c.len.ensures.value, c.depth.ensures.value) in
    let lands : Lands 1 (opened level) (level ∷ levels_in old.levels) old new =
    record { limits = p.limits; fault = p.fault; offset = p.offset; mode_is = p.mode_is ∙ c.opened_mode.ensures; levels_are = more } in
    let es : List Event = event_at old.offset (opening_of level) ∷ [] in
    rw (c.skip.ensures.count)
    (record {
      lands = λ some. lands;
      all = of_prefix r.some (open_taken old new c.args.piece.now level r.some r.begins r.takes.0 r.due r.takes.1 deep lands
          (λ events h. rw (← c.opening.ensures) (c.tell.ensures events h)));
      any = of_prefix r.some (any_opened old new (take 1 c.args.piece.now) level old.offset
          (open_taken {before = λ events. events ≡ []} {after = λ events. events ≡ es} old new c.args.piece.now level r.some r.begins r.takes.0 r.due
          r.takes.1 deep lands (from_none es)) more);
    })

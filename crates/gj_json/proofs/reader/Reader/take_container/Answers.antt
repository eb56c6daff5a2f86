-- A bracket, and what closes it at once.
use Rattle.gj_json.proofs.Common.{arith, false, length-take-le, true, ◌∙◌, ◌≡◌}
use Rattle.gj_json.proofs.Pieces.TokensInLevels.{container_token}
use Rattle.gj_json.proofs.reader.Reader.take_container.Goals as goal

pub returns : goal.returns
returns g c =
    let r = c.requires in
    let start = c.take_open-opened in
    let close = c.take_close-closed in
    let last = c.take_next_end in
    let piece = c.args.piece.now in
    let lands = start.ensures.lands (omega (arith, c.if-opened-eq0.false)) in
    let one : start.result ≡ 1 =
    omega (arith, lands.offset, start.ensures.all.holds.offset, length-take-le start.result piece start.ensures.all.within) in
    let ends = c.if-piece-closing_bracket.false ∙ c.closing_bracket.ensures in
    record {
      all = container_token true (g.S.EventSink.heard c.args.sink.now) (g.S.EventSink.heard start.new.sink) (g.S.EventSink.heard close.new.sink)
          c.args.self.now start.new.self close.new.self piece c.args.level start.result close.result one close.ensures.count
          (omega (arith, c.if-piece-lt2.false)) ends r.takes.0 r.takes.1 lands close.ensures.lands close.ensures.heard
          (g.S.EventSink.heard last.new.sink) last.new.self last.result start.ensures.all last.ensures.all;
      any = container_token false (λ events. Unit {0}) (λ events. Unit {0}) (λ events. Unit {0}) c.args.self.now start.new.self close.new.self piece
          c.args.level start.result close.result one close.ensures.count (omega (arith, c.if-piece-lt2.false)) ends r.takes.0 r.takes.1 lands
          close.ensures.lands (λ events h. tt) (λ events. Unit {0}) last.new.self last.result start.ensures.any last.ensures.any;
    }

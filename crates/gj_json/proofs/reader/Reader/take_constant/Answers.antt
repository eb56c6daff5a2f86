-- A literal name, and the byte after it.
use Rattle.gj_json.proofs.Common.{FeedsAny, ap, arith, length}
use Rattle.gj_json.specs.Internal.OpenLevels.{levels_in}
use Rattle.gj_json.proofs.Readers.CallsInTurn.{of_prefix, then_all}
use Rattle.gj_json.proofs.Pieces.TakenTokens.{constant_taken}
use Rattle.gj_json.proofs.Pieces.TokensInLevels.{any_constant, then_any}
use Rattle.gj_json.proofs.reader.Reader.take_constant.Goals as goal

pub returns : goal.returns
returns g c =
    let q = c.constant_run-count in
    let letters = q.ensures.letters (omega arith) in
    let passed = c.skip.ensures.passed in
    let r = c.requires in
    record {
      all = then_all (of_prefix q.ensures.within (constant_taken c.args.self.now c.skip.new.self c.args.piece.now q.result r.takes.0 r.due r.takes.1
          q.ensures.within passed c.args.which letters (λ events h. rw (← c.what_of.ensures) (c.tell.ensures events h)))) c.take_next_end.ensures.all;
      any = then_any (of_prefix {Holds = FeedsAny c.args.self.now c.skip.new.self} q.ensures.within (any_constant c.args.self.now c.skip.new.self
          c.args.piece.now q.result c.args.which r.takes.0 r.due r.takes.1 q.ensures.within passed letters)) c.take_next_end.ensures.any
          (omega (arith, ap (λ ls. length (levels_in ls)) passed.levels));
    }

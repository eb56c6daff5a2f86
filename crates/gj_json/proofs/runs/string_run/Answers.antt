-- The bytes of a string, run by run and byte by byte.
use Rattle.gj_json.proofs.Common.{Plain, arith, get_or, length, string_goes, string_next, sym, [], ◌+◌, ◌<◌, ◌∙◌, ◌∷◌, ◌≡◌, ◌≤◌}
use Rattle.std.proofs.Common.{append-nil}
use Rattle.gj_json.proofs.Grammar.OneCharacter.{one_character, goes_is, reads_is}
use Rattle.gj_json.proofs.Pieces.SkippedRuns.{HasRead, after_plain, after_text, after_byte}
use Rattle.gj_json.proofs.Pieces.PieceRests.{more_within}
use Rattle.gj_json.proofs.runs.string_run.Goals as goal
use Rattle.gj_json.proofs.runs.string_run.Goals.{in-Goes, in-Reads}

pub returns-then-count-piece-clause-reads : goal.returns-then-count-piece-clause-reads
returns-then-count-piece-clause-reads c =
    let plain : HasRead c.args.state c.args.piece.now
    (c.loop-count.count + c.plain_front-plain.result) c.loop-count.here c.args.content.now c.push_run.new.self =
    after_plain c.args.state c.loop-count.here c.args.piece.now c.loop-count.count c.plain_front-plain.result c.args.content.now c.loop-count.content
    c.push_run.new.self
    c.loop-count.invariant.reads c.plain_front-plain.ensures.reads c.plain_front-plain.ensures.ascii c.push_run.ensures in
    let text = c.text_front-count.ensures.reads in
    after_text c.args.state c.loop-count.here c.args.piece.now text.0
    (c.loop-count.count + c.plain_front-plain.result) c.text_front-count.result c.args.content.now c.push_run.new.self plain text.1 text.2

pub returns-in_default-clause-reads : goal.returns-in_default-clause-reads
returns-in_default-clause-reads c =
    let plain : HasRead c.args.state c.args.piece.now
    (c.loop-count.count + c.plain_front-plain.result) c.loop-count.here c.args.content.now c.push_run.new.self =
    after_plain c.args.state c.loop-count.here c.args.piece.now c.loop-count.count c.plain_front-plain.result c.args.content.now c.loop-count.content
    c.push_run.new.self
    c.loop-count.invariant.reads c.plain_front-plain.ensures.reads c.plain_front-plain.ensures.ascii c.push_run.ensures in
    let text = c.text_front-count.ensures.reads in
    after_text c.args.state c.loop-count.here c.args.piece.now text.0
    (c.loop-count.count + c.plain_front-plain.result) c.text_front-count.result c.args.content.now c.push_run.new.self plain text.1 text.2

pub loop-count-preserved : goal.loop-count-preserved
loop-count-preserved c =
    let front = c.loop-count.count + c.plain_front-plain.result in
    let at = front + c.text_front-count.result in
    let piece = c.args.piece.now in
    let here = c.loop-count.here in
    let v : front ≤ length piece =
    more_within piece c.loop-count.count c.plain_front-plain.result c.loop-count.invariant.within c.plain_front-plain.ensures.within in
    let w : at ≤ length piece = more_within piece front c.text_front-count.result v c.text_front-count.ensures.within in
    let less : at < length piece = omega (arith, w, c.if-count-piece.false) in
    let plain : HasRead c.args.state c.args.piece.now
    (c.loop-count.count + c.plain_front-plain.result) c.loop-count.here c.args.content.now c.push_run.new.self =
    after_plain c.args.state c.loop-count.here c.args.piece.now c.loop-count.count c.plain_front-plain.result c.args.content.now c.loop-count.content
    c.push_run.new.self
    c.loop-count.invariant.reads c.plain_front-plain.ensures.reads c.plain_front-plain.ensures.ascii c.push_run.ensures in
    let text = c.text_front-count.ensures.reads in
    let read : HasRead c.args.state piece at here c.args.content.now c.push_run.new.self =
    after_text c.args.state c.loop-count.here c.args.piece.now text.0
    (c.loop-count.count + c.plain_front-plain.result) c.text_front-count.result c.args.content.now c.push_run.new.self plain text.1 text.2 in
    elim c.match-next_string.branch [
      | in-Goes w ↦ (
          let e : string_next here (get_or piece at 0) ≡ string_goes [] w.in-Goes.next =
          goes_is (string_next here (get_or piece at 0)) w.in-Goes.next (sym c.next_string.ensures.value ∙ w.in-Goes.is) in
          record {
            within = omega (arith, less);
            state = rw (w.here-is) w.in-Goes.ensures.state;
            reads = rw (w.here-is, w.content-is)
                (after_byte c.args.state here w.in-Goes.next piece [] at c.args.content.now c.push_run.new.self c.push_run.new.self read less e
                (λ so_far k. rw append-nil k));
          })
      | in-Reads w ↦ (
          let e : string_next here (get_or piece at 0) ≡ string_goes (w.in-Reads.character ∷ []) Plain =
          reads_is (string_next here (get_or piece at 0)) w.in-Reads.character (one_character here (get_or piece at 0))
          (sym c.next_string.ensures.value ∙ w.in-Reads.is) in
          record {
            within = omega (arith, less);
            state = rw (w.here-is) (omega arith);
            reads = rw (w.here-is, w.content-is)
                (after_byte c.args.state here Plain piece
                (w.in-Reads.character ∷ []) at c.args.content.now c.push_run.new.self w.push.new.self read less e w.push.ensures);
          })
    ]

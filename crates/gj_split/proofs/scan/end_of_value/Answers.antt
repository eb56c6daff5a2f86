use Rattle.gj_split.proofs.Common.{Scan, ap, arith, drop, is_running, length, scan_length, sym, take, true, ◌+◌, ◌∙◌, ◌≡◌}
use Rattle.gj_split.proofs.ReadParts.{part_read}
use Rattle.gj_split.proofs.ScannedValues.{running_rest, ended_rest, not_ended, length_on}
use Rattle.gj_split.proofs.scan.end_of_value.Goals as goal

pub returns-in-Closed : goal.returns-in-Closed
returns-in-Closed g c = λ bytes e.
    let part = take c.in-Ok.count c.read_at.new.piece in
    let on = length_on c.args.place c.loop-turn.at c.over-scanned.result.count Scan.Start c.loop-turn.scan c.over-scanned.result.scan part bytes
    (part_read _ _ c.loop-turn.at c.in-Ok.count c.read_at.new.piece bytes c.in-Ok.ensures.bytes e)
    (c.loop-turn.invariant.length bytes e) c.over-scanned.ensures.length in
    let none = ended_rest c.over-scanned.result.scan (drop (c.loop-turn.at + length part) bytes) c.in-Closed.is in
    let next : c.in-Some.next ≡ c.loop-turn.at + c.over-scanned.result.count = c.in-Some.ensures.1 in
    omega (arith, on, none, next)

pub loop-turn-preserved : goal.loop-turn-preserved
loop-turn-preserved g c =
    let part = take c.in-Ok.count c.read_at.new.piece in
    let run : is_running c.over-scanned.result.scan ≡ true = not_ended c.over-scanned.result.scan c.in_default.not-Closed c.in_default.not-Past in
    let next : c.in-Some.next ≡ c.loop-turn.at + c.over-scanned.result.count = c.in-Some.ensures.1 in
    let whole : c.over-scanned.result.count ≡ length part = c.over-scanned.ensures.whole run in
    record {
      running = run;
      from = omega (arith, c.loop-turn.invariant.from, next);
      length = λ bytes e.
          length_on c.args.place c.loop-turn.at c.over-scanned.result.count Scan.Start c.loop-turn.scan c.over-scanned.result.scan part bytes
          (part_read _ _ c.loop-turn.at c.in-Ok.count c.read_at.new.piece bytes c.in-Ok.ensures.bytes e)
          (c.loop-turn.invariant.length bytes e) c.over-scanned.ensures.length
          ∙ (ap (λ n. c.loop-turn.at + c.over-scanned.result.count + n)
          (running_rest c.over-scanned.result.scan (drop (c.loop-turn.at + length part) bytes) run)
          ∙ (ap (λ n. c.loop-turn.at + c.over-scanned.result.count + n)
          (ap (λ n. scan_length c.over-scanned.result.scan (drop (c.loop-turn.at + n) bytes)) (sym whole))
          ∙ ap (λ n. n + scan_length c.over-scanned.result.scan (drop n bytes)) (sym next)));
    }

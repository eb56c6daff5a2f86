-- The arrays, one after another.
use Rattle.gj_json.proofs.Common.{FeedsAll, IsDueAt, List, ap, arith, drop, length, refl, subst, sym, ℕ, ◌+◌, ◌-◌, ◌<◌, ◌∙◌, ◌≡◌}
use Rattle.std.proofs.Common.{take}
use Rattle.gj_json.proofs.Readers.CallsInTurn
use Rattle.gj_json.proofs.Readers.CallsInTurn.{of_prefix, piece_left}
use Rattle.gj_json.proofs.Pieces.PieceRests.{rest_of, more_within, left_within, left_is}
use Rattle.gj_json.proofs.Pieces.FlatsInTurn.{goes_on, ends}
use Rattle.gj_json.proofs.reader.Reader.take_several.Goals as goal

pub loop-begins-init : goal.loop-begins-init
loop-begins-init g c =
    let piece = c.args.piece.now in
    let none : 0 ≡ length piece - length piece = omega arith in
    let P : ℕ → Type 0 =
    λ n. FeedsAll (g.S.EventSink.heard c.args.sink.now) (g.S.EventSink.heard c.args.sink.now) c.args.self.now c.args.self.now (take n piece) in
    record {
      within = omega arith;
      rest_is = ap (λ n. drop n piece) none;
      fed = subst P none (CallsInTurn.feeds_nothing c.args.self.now c.requires.takes.0);
      next = λ begins. c.requires.next;
      levels = refl;
    }

pub returns-then-comma-eq0 : goal.returns-then-comma-eq0
returns-then-comma-eq0 g c =
    let invariant = c.loop-begins.invariant in
    let some = c.in-Some.ensures in
    of_prefix (omega arith) (ends c.args.self.now c.loop-begins.self c.skip.new.self c.read_flat.new.flat c.args.piece.now c.loop-begins.rest.now c.in-Some.count
    invariant.within invariant.rest_is invariant.fed (invariant.next c.loop-begins-test.true) invariant.levels c.requires.deep c.requires.inner
    c.requires.takes.1 some.within some.flat (λ events h. c.tell_flat.ensures events h) c.skip.ensures.passed)

pub loop-begins-preserved : goal.loop-begins-preserved
loop-begins-preserved g c =
    let invariant = c.loop-begins.invariant in
    let piece = c.args.piece.now in
    let rest = c.loop-begins.rest.now in
    let count = c.in-Some.count in
    let some = c.in-Some.ensures in
    let run = c.comma_run-comma in
    let comma = run.result in
    let positive : 0 < comma = omega (arith, c.if-comma-eq0.false) in
    let few = more_within rest count comma some.within run.ensures.within in
    record {
      within = left_within piece rest (count + comma) invariant.within few;
      rest_is = left_is piece rest (count + comma) invariant.within few invariant.rest_is;
      fed = goes_on c.args.self.now c.loop-begins.self c.skip-in-loop-begins.new.self c.read_flat.new.flat piece rest count invariant.within
          invariant.rest_is invariant.fed (invariant.next c.loop-begins-test.true) invariant.levels c.requires.deep c.requires.inner c.requires.takes.1
          some.within some.flat (λ events h. c.tell_flat.ensures events h) comma positive run.ensures.within (run.ensures.comma positive)
          (run.ensures.white positive) c.skip-in-loop-begins.ensures.passed;
      next = λ begins. record {
        due = rw (c.skip-in-loop-begins.ensures.passed.mode_is) refl;
        some = c.begins_array-begins.ensures.within begins;
        bracket = c.begins_array-begins.ensures.bracket begins;
      };
      levels = c.skip-in-loop-begins.ensures.passed.levels ∙ invariant.levels;
    }

pub loop-begins-preserved-then-begins : goal.loop-begins-preserved-then-begins
loop-begins-preserved-then-begins g c =
    let invariant = c.loop-begins.invariant in
    let piece = c.args.piece.now in
    let rest = c.loop-begins.rest.now in
    let count = c.in-Some.count in
    let some = c.in-Some.ensures in
    let run = c.comma_run-comma in
    let comma = run.result in
    let skipped = c.skip-in-loop-begins in
    let positive : 0 < comma = omega (arith, c.if-comma-eq0.false) in
    let few = more_within rest count comma some.within run.ensures.within in
    let within = left_within piece rest (count + comma) invariant.within few in
    let rest_is = left_is piece rest (count + comma) invariant.within few invariant.rest_is in
    let fed = goes_on c.args.self.now c.loop-begins.self skipped.new.self c.read_flat.new.flat piece rest count invariant.within invariant.rest_is
    invariant.fed (invariant.next c.loop-begins-test.true) invariant.levels c.requires.deep c.requires.inner c.requires.takes.1 some.within some.flat
    (λ events h. c.tell_flat.ensures events h) comma positive run.ensures.within (run.ensures.comma positive) (run.ensures.white positive)
    skipped.ensures.passed in
    let left = take (length rest - (count + comma)) (drop (count + comma) rest) in
    let taken = c.take_next_positions-many in
    let many = taken.ensures in
    let n = taken.result in
    let P : List ℕ → Type 0 = λ xs. IsDueAt taken.new.self.mode xs in
    record {
      within = left_within piece left n within many.taken.within;
      rest_is = left_is piece left n within many.taken.within rest_is;
      fed = piece_left c.args.self.now skipped.new.self taken.new.self piece left n within rest_is many.taken.within fed many.taken.holds;
      next = λ begins. subst P (sym (rest_of left n)) many.next;
      levels = many.levels ∙ skipped.ensures.passed.levels ∙ invariant.levels;
    }

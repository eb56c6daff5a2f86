-- The positions that the sink takes, as their arrays in turn.
use Rattle.gj_json.proofs.Common.{CutPosition, FeedsAll, List, Passed, SpellsPositions, ValueDue, ap, arith, awaits, drop, get_or, get_or-drop, length}
use Rattle.gj_json.proofs.Common.{open_bracket, place_after, place_after_all, subst, sym, ℕ, [], ◌-◌, ◌<◌, ◌∙◌, ◌≡◌, ◌≤◌}
use Rattle.std.proofs.Common.{append-nil, take, length-drop}
use Rattle.std.proofs.lemmas.List.{get_or-take, length-take, take_all}
use Rattle.gj_json.specs.CutPosition.{AreCutPositions}
use Rattle.gj_json.specs.Internal.SpelledPositions.{gap_of, HasHead}
use Rattle.gj_json.proofs.Readers.CallsInTurn.{of_prefix, piece_left}
use Rattle.gj_json.proofs.Pieces.PieceRests.{rest_of, left_within, left_is}
use Rattle.gj_json.proofs.Pieces.FlatsInTurn.{depth_left, room_left}
use Rattle.gj_json.proofs.Pieces.ReadPositions.{rising, end_is, end_begins}
use Rattle.gj_json.proofs.Pieces.TakenPositions.{Then, heard_less, room_filled, room_passed, first_taken}
use Rattle.gj_json.proofs.reader.Reader.take_positions.Goals as goal

-- where those end that the sink takes
record Ends (gap : ℕ) (told : List CutPosition) (k offset : ℕ) (rest : List ℕ) (last : ℕ) : Type 0 where
  spelled : SpellsPositions gap told offset rest
  some : 0 < k
  end : place_after_all gap (take k told) offset ≡ last
  on : offset < last
  within : last - offset < length rest
  bracket : get_or rest (last - offset) 0 ≡ open_bracket

ends : (gap : ℕ) (all : List CutPosition) (d : CutPosition) (found k offset : ℕ) (rest : List ℕ) → (k ≡ 0 → ⊥) → k ≤ length (take found all)
    → SpellsPositions gap (take found all) offset rest → Ends gap (take found all) k offset rest (place_after gap (get_or all (k - 1) d))
ends gap all d found k offset rest some few s =
    let told = take found all in
    let positive : 0 < k = omega (arith, some) in
    let b = end_begins gap told d k offset rest positive few s in
    let P : CutPosition → Type 0 = λ p. Ends gap told k offset rest (place_after gap p) in
    subst P (get_or-take found all (k - 1) d (omega (arith, length-take found all, positive))) (record {
      spelled = s;
      some = positive;
      end = end_is gap told d k offset rest positive few s;
      on = b.0;
      within = b.1;
      bracket = b.2;
    })

pub tell_positions-taken-requires : goal.tell_positions-taken-requires
tell_positions-taken-requires g c =
    record {
      rising =
          rising (gap_of c.args.separators.now) (take c.read_positions-found.result c.read_positions-found.new.positions) c.loop-taken.self.offset c.loop-taken.rest.now
          c.read_positions-found.ensures.spelled;
    }

pub returns-then-taken-eq0-clause-taken : goal.returns-then-taken-eq0-clause-taken
returns-then-taken-eq0-clause-taken g c =
    let i = c.loop-taken.invariant in
    let told = take c.read_positions-found.result c.read_positions-found.new.positions in
    let piece = c.args.piece.now in
    let P : ℕ → Type 0 = λ n. AreCutPositions (take n told) [] in
    let none : P c.tell_positions-taken.result = subst P (sym c.if-taken-eq0.true) tt in
    let bytes = take (length piece - length c.loop-taken.rest.now) piece in
    of_prefix (omega arith) (room_filled c.args.self.now c.loop-taken.self bytes
    (heard_less c.args.self.now c.loop-taken.self bytes i.fed
    (λ events h. subst (g.S.EventSink.heard c.tell_positions-taken.new.self) (append-nil events) (c.tell_positions-taken.ensures.heard [] none events h))))

pub overflow_add-next-in-loop-taken : goal.overflow_add-next-in-loop-taken
overflow_add-next-in-loop-taken g c =
    let i = c.loop-taken.invariant in
    let all = c.read_positions-found.new.positions in
    let gap = gap_of c.args.separators.now in
    let e = ends gap all c.index-self-taken.result c.read_positions-found.result _ c.loop-taken.self.offset c.loop-taken.rest.now
    c.if-taken-eq0.false c.tell_positions-taken.ensures.few c.read_positions-found.ensures.spelled in
    let less = e.within in
    let limits = ap (λ l. l.bytes) i.fed.feeds.limits in
    let room = room_left c.args.self.now c.loop-taken.self c.args.piece.now c.loop-taken.rest.now i.within i.fed c.requires.takes.1 in
    omega arith

pub overflow_add-next-in-loop-taken-2 : goal.overflow_add-next-in-loop-taken-2
overflow_add-next-in-loop-taken-2 g c =
    let i = c.loop-taken.invariant in
    let all = c.read_positions-found.new.positions in
    let gap = gap_of c.args.separators.now in
    let e = ends gap all c.index-self-taken.result c.read_positions-found.result _ c.loop-taken.self.offset c.loop-taken.rest.now
    c.if-taken-eq0.false c.tell_positions-taken.ensures.few c.read_positions-found.ensures.spelled in
    let less = e.within in
    let limits = ap (λ l. l.bytes) i.fed.feeds.limits in
    let room = room_left c.args.self.now c.loop-taken.self c.args.piece.now c.loop-taken.rest.now i.within i.fed c.requires.takes.1 in
    omega arith

pub overflow_sub-count : goal.overflow_sub-count
overflow_sub-count g c =
    let all = c.read_positions-found.new.positions in
    let gap = gap_of c.args.separators.now in
    let e = ends gap all c.index-self-taken.result c.read_positions-found.result _ c.loop-taken.self.offset c.loop-taken.rest.now
    c.if-taken-eq0.false c.tell_positions-taken.ensures.few c.read_positions-found.ensures.spelled in
    let on = e.on in
    omega arith

pub skip-requires-clause-room : goal.skip-requires-clause-room
skip-requires-clause-room g c =
    let i = c.loop-taken.invariant in
    let all = c.read_positions-found.new.positions in
    let gap = gap_of c.args.separators.now in
    let e = ends gap all c.index-self-taken.result c.read_positions-found.result _ c.loop-taken.self.offset c.loop-taken.rest.now
    c.if-taken-eq0.false c.tell_positions-taken.ensures.few c.read_positions-found.ensures.spelled in
    let less = e.within in
    let room = room_left c.args.self.now c.loop-taken.self c.args.piece.now c.loop-taken.rest.now i.within i.fed c.requires.takes.1 in
    omega arith

pub slice_bounds-rest-count : goal.slice_bounds-rest-count
slice_bounds-rest-count g c =
    let all = c.read_positions-found.new.positions in
    let gap = gap_of c.args.separators.now in
    let e = ends gap all c.index-self-taken.result c.read_positions-found.result _ c.loop-taken.self.offset c.loop-taken.rest.now
    c.if-taken-eq0.false c.tell_positions-taken.ensures.few c.read_positions-found.ensures.spelled in
    let less = e.within in
    omega arith

pub slice_bounds-rest-start : goal.slice_bounds-rest-start
slice_bounds-rest-start g c =
    let all = c.read_positions-found.new.positions in
    let gap = gap_of c.args.separators.now in
    let e = ends gap all c.index-self-taken.result c.read_positions-found.result _ c.loop-taken.self.offset c.loop-taken.rest.now
    c.if-taken-eq0.false c.tell_positions-taken.ensures.few c.read_positions-found.ensures.spelled in
    let less = e.within in
    omega arith

pub loop-taken-smaller : goal.loop-taken-smaller
loop-taken-smaller g c =
    let gap = gap_of c.args.separators.now in
    let rest = c.loop-taken.rest.now in
    let all = c.read_positions-found.new.positions in
    let e = ends gap all c.index-self-taken.result c.read_positions-found.result _ c.loop-taken.self.offset rest c.if-taken-eq0.false
    c.tell_positions-taken.ensures.few c.read_positions-found.ensures.spelled in
    let last = place_after gap (get_or all (c.tell_positions-taken.result - 1) c.index-self-taken.result) in
    let n = last - c.loop-taken.self.offset in
    let on = e.on in
    let less = e.within in
    omega (arith, ap length (rest_of rest n), length-drop n rest)

pub loop-taken-preserved : goal.loop-taken-preserved
loop-taken-preserved g c =
    let gap = c.gap.result in
    let i = c.loop-taken.invariant in
    let old = c.loop-taken.self in
    let piece = c.args.piece.now in
    let rest = c.loop-taken.rest.now in
    let told = take c.read_positions-found.result c.read_positions-found.new.positions in
    let k = c.tell_positions-taken.result in
    let last = place_after gap (get_or c.read_positions-found.new.positions (k - 1) c.index-self-taken.result) in
    let n = last - old.offset in
    let all = c.read_positions-found.new.positions in
    let S : ℕ → Type 0 = λ k. SpellsPositions k told old.offset rest in
    let e = ends gap all c.index-self-taken.result c.read_positions-found.result _ old.offset rest c.if-taken-eq0.false
    c.tell_positions-taken.ensures.few (subst S (sym c.gap.ensures) c.read_positions-found.ensures.spelled) in
    let on = e.on in
    let less = e.within in
    let few : n ≤ length rest = omega arith in
    let P : ℕ → Type 0 = λ m. Passed (m - old.offset) ValueDue old c.skip.new.self in
    let Q : ℕ → Type 0 = λ m. FeedsAll (g.S.EventSink.heard c.loop-taken.sink) (Then (g.S.EventSink.heard c.loop-taken.sink) (take k told)) old c.skip.new.self
    (take (m - old.offset) rest) in
    let taken = subst Q e.end (first_taken gap told k old c.skip.new.self rest e.some c.tell_positions-taken.ensures.few e.spelled i.fed.live i.next.due
    (depth_left c.args.self.now old piece rest i.within i.fed i.levels c.requires.deep) (rw (i.levels) c.requires.inner)
    (room_left c.args.self.now old piece rest i.within i.fed c.requires.takes.1) (subst P (sym e.end) (room_passed old c.skip.new.self c.skip.ensures.passed))) in
    let heard = heard_less old c.skip.new.self (take n rest) taken
    (λ es (flats, are, events, h, is). subst (g.S.EventSink.heard c.tell_positions-taken.new.self) (sym is)
    (c.tell_positions-taken.ensures.heard flats are events h)) in
    record {
      within = left_within piece rest n i.within few;
      rest_is = left_is piece rest n i.within few i.rest_is;
      fed = piece_left c.args.self.now old c.skip.new.self piece rest n i.within i.rest_is few i.fed heard;
      next = record {
        due = ap awaits c.skip.ensures.passed.mode_is;
        some = omega (arith, ap length (rest_of rest n), length-drop n rest);
        bracket = ap (λ xs. get_or xs 0 0) (rest_of rest n) ∙ get_or-drop n rest 0 0 ∙ ap (λ m. get_or rest m 0) (omega arith) ∙ e.bracket;
      };
      head = λ full.
          let s = c.args.separators.now in
          let many = c.read_positions-found.ensures.few in
          let all_told : length told ≤ k = omega (arith, length-take c.read_positions-found.result all) in
          let end = ap (λ ps. place_after_all gap ps old.offset) (sym (take_all k told all_told)) ∙ e.end in
          let G : ℕ → Type 0 = λ g. HasHead s (drop (place_after_all g told old.offset - old.offset) rest) in
          let H : ℕ → Type 0 = λ m. HasHead s (drop (m - old.offset) rest) in
          subst (HasHead s) (sym (rest_of rest n)) (subst H end (subst G (sym c.gap.ensures) c.read_positions-found.ensures.next));
      levels = c.skip.ensures.passed.levels ∙ i.levels;
    }

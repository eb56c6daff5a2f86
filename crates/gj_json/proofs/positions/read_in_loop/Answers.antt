-- One position more.
use Rattle.gj_json.proofs.Common.{CutPosition, List, ap, arith, cut, drop, get_or, length, open_bracket, rules, subst, sym, ℕ, [], ◌++◌, ◌+◌, ◌-◌, ◌∙◌, ◌∷◌, ◌≡◌, ◌≤◌}
use Rattle.std.proofs.Common.{length-drop, take}
use Rattle.std.proofs.lemmas.List.{take_more_set}
use Rattle.gj_json.specs.Internal.SpelledPositions.{gap_of, HasHead, SpellsPosition}
use Rattle.gj_json.proofs.Grammar.SeparatedArrays.{byte_in}
use Rattle.gj_json.proofs.Pieces.PieceRests.{rest_of}
use Rattle.gj_json.proofs.Pieces.ReadPositions.{none_read, one_read, ReadTo}
use Rattle.gj_json.proofs.positions.read_in_loop.Goals as goal

step : (gap g : ℕ) → g ≡ gap → (start : ℕ) (piece : List ℕ) (before : List CutPosition) (rest : List ℕ) (within : length rest ≤ length piece)
    (read : ReadTo gap start piece before rest) (p : CutPosition) (s : SpellsPosition gap p (start + length piece - length rest) rest)
    (more : List CutPosition) → more ≡ before ++ p ∷ []
    → ReadTo gap start piece more (take (length rest - (p.close_at + 2 + g)) (drop (p.close_at + 2 + g) rest))
step gap g e start piece before rest within read p s more is =
    let P : ℕ → Type 0 = λ n. ReadTo gap start piece more (take (length rest - (p.close_at + 2 + n)) (drop (p.close_at + 2 + n) rest)) in
    subst P (sym e) (one_read gap start piece before rest within read p s more is)

pub loop-count-init : goal.loop-count-init
loop-count-init g c =
    let piece = c.args.piece.now in
    let head = c.args.separators.now.outer.head.now in
    let o = c.requires.separators.outer in
    let room : 1 ≤ length head = (let r = o.room in omega (
      arith,
      ap length o.head,
      length-drop c.args.separators.now.outer.open
          c.args.separators.now.outer.separator.bytes.now,
    )) in
    let there : cut piece 0 (0 + length head) ≡ head =
    ap (λ n. cut piece 0 n) {x = 0 + length head} {y = length head} (omega arith) ∙ c.requires.head in
    let bracket : get_or piece 0 0 ≡ open_bracket =
    ap (λ k. get_or piece k 0) {x = 0} {y = 0 + 0} (omega arith) ∙ byte_in piece head 0 there 0 room ∙ o.opens in
    record {
      few = omega arith;
      size = search rules;
      within = omega arith;
      head = c.requires.head;
      read = none_read (gap_of c.args.separators.now) c.args.start piece bracket;
    }

pub loop-count-preserved : goal.loop-count-preserved
loop-count-preserved g c =
    let i = c.loop-count.invariant in
    let all = c.loop-count.positions in
    let rest = c.loop-count.rest.now in
    let p = c.in-Some.position in
    let s = c.args.separators.now in
    let few = c.loop-count-test.true in
    let size = i.size in
    let P : ℕ → Type 0 = λ g. HasHead s (drop (p.close_at + 2 + g) rest) in
    let Q : List ℕ → Type 0 = λ xs. HasHead s xs in
    record {
      few = omega arith;
      size = search rules;
      within = omega arith;
      head = subst Q (sym (rest_of rest (p.close_at + 2 + c.gap.result))) (subst P (sym c.gap.ensures) c.in-Some.ensures.next);
      read = step (gap_of s) c.gap.result c.gap.ensures c.args.start c.args.piece.now _ rest i.within i.read p c.in-Some.ensures.spelled _
          (take_more_set all c.loop-count.count p (omega arith));
    }

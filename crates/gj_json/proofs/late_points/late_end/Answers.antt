-- The end of a member from the comma after its coordinates on, by its bytes.
use Rattle.gj_json.proofs.Common.{ap, arith, cut, sym, ◌+◌, ◌∙◌, ◌≡◌}
use Rattle.gj_json.specs.Bytes.{comma}
use Rattle.gj_json.specs.Internal.WholeHeads.{spaces}
use Rattle.gj_json.proofs.Grammar.UsualHeads.{byte_on, from_start, goes_on, length-spaces, white_spaces}
use Rattle.gj_json.proofs.Grammar.UsualTokens.{same_bytes}
use Rattle.gj_json.proofs.Pieces.PieceCuts.{cut_front}
use Rattle.gj_json.proofs.late_points.late_end.Goals as goal

pub returns-clause-ends : goal.returns-clause-ends
returns-clause-ends c =
    let piece = c.args.piece.now in
    let gap = c.args.gap in
    let name_at = 1 + gap in
    let word_at = name_at + 7 + gap in
    let end = word_at + 7 + 1 in
    let there : word_at + 8 ≡ end = omega arith in
    let point = ap (cut piece word_at) (sym there) ∙ cut_front piece word_at 8 ∙ same_bytes _ _ c.if-not-begins-2.ensures in
    record {
      gap = spaces gap;
      white = white_spaces gap;
      spelled = from_start piece end
          ∙ byte_on piece 0 end comma _ (omega arith) (omega arith) c.if-piece-ne44.false
          (goes_on piece 1 name_at end _ _ (omega arith) (omega arith) (c.has_spaces.ensures c.if-not-has_spaces.false)
          (goes_on piece name_at (name_at + 7) end _ _ (omega arith) (omega arith) (cut_front piece name_at 7 ∙ same_bytes _ _ c.if-not-begins.ensures)
          (goes_on piece (name_at + 7) word_at end _ _ (omega arith) (omega arith)
          (c.has_spaces-else-not-has_spaces.ensures c.if-not-has_spaces-2.false) point)));
      name_place = omega (arith, length-spaces gap);
      word_place = omega (arith, length-spaces gap);
    }

-- The beginning of a member up to its coordinates, by its bytes.
use Rattle.gj_json.proofs.Common.{ap, arith, cut, open_brace, sym, ◌+◌, ◌∙◌, ◌≡◌}
use Rattle.gj_json.specs.Internal.WholeHeads.{spaces}
use Rattle.gj_json.proofs.Grammar.UsualHeads.{byte_on, from_start, goes_on, length-spaces, white_spaces}
use Rattle.gj_json.proofs.Grammar.UsualTokens.{same_bytes}
use Rattle.gj_json.proofs.Pieces.PieceCuts.{cut_front}
use Rattle.gj_json.proofs.late_points.late_start.Goals as goal

pub returns-clause-begins : goal.returns-clause-begins
returns-clause-begins c =
    let piece = c.args.piece.now in
    let gap = c.args.gap in
    let bracket = 11 + gap in
    let count = bracket + 15 + gap in
    let there : bracket + 1 + 14 ≡ bracket + 15 = omega arith in
    let last = ap (cut piece (bracket + 1)) (sym there) ∙ cut_front piece (bracket + 1) 14 ∙ same_bytes _ _ c.if-not-begins-2.ensures in
    record {
      gap = spaces gap;
      white = white_spaces gap;
      spelled = from_start piece count
          ∙ goes_on piece 0 11 count _ _ (omega arith) (omega arith) (same_bytes _ _ c.if-not-begins.ensures)
          (goes_on piece 11 bracket count _ _ (omega arith) (omega arith) (c.has_spaces.ensures c.if-not-has_spaces.false)
          (byte_on piece bracket count open_brace _ (omega arith) (omega arith) c.if-piece-bracket-ne123.false
          (goes_on piece (bracket + 1) (bracket + 15) count _ _ (omega arith) (omega arith) last
          (c.has_spaces-else-not-has_spaces.ensures c.if-not-has_spaces-2.false))));
      bracket_place = omega (arith, length-spaces gap);
    }

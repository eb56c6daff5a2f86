-- The beginning of a member `geometry`, by its bytes.
use Rattle.gj_json.proofs.Common.{List, arith, subst, ℕ, ◌+◌, ◌∙◌}
use Rattle.std.proofs.Common.{take}
use Rattle.gj_json.specs.Internal.WholeHeads.{spaces, BeginsTyped}
use Rattle.gj_json.proofs.Grammar.UsualHeads.{located_by}
use Rattle.gj_json.proofs.Grammar.UsualTokens.{same_bytes}
use Rattle.gj_json.proofs.Pieces.PieceCuts.{cut_front}
use Rattle.gj_json.proofs.Pieces.PieceRests.{rest_of}
use Rattle.gj_json.proofs.heads.located_with.Goals as goal

pub returns : goal.returns
returns c = λ some.
    let piece = c.args.piece.now in
    let typed = c.typed_with-typed.result in
    let found = c.typed_with-typed.ensures in
    let bracket = 11 + c.args.before in
    let P : List ℕ → Type 0 =
    λ xs. BeginsTyped 0 typed.name_at typed.word_at typed.word (spaces c.args.inside) (spaces c.args.gap) (take typed.count xs) in
    let on = found.on (omega arith) in
    let h = found.typed (omega arith) in
    record {
      some = some;
      within = omega (arith, found.short);
      bracket = omega (arith, h.name_place);
      name = omega (arith, on);
      word = omega (arith, found.few);
      coordinates = omega arith;
      located = located_by piece c.args.before c.args.inside c.args.gap typed.count typed.name_at typed.word_at typed.word
          (same_bytes _ _ c.if-not-begins.ensures) (c.has_spaces.ensures c.if-not-has_spaces.false)
          (subst P (rest_of piece bracket) h)
          (cut_front piece (bracket + typed.count) 14 ∙ same_bytes _ _ c.if-not-begins-2.ensures) (c.has_spaces-2.ensures c.if-not-has_spaces-2.false)
          (omega (arith, found.short));
    }

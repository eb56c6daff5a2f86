-- The beginning of an object, by its bytes.
use Rattle.gj_json.proofs.Common.{List, arith, subst, ℕ, ◌+◌, ◌∙◌}
use Rattle.gj_json.specs.Internal.WholeTokens.{IsUsualText}
use Rattle.gj_json.proofs.Grammar.UsualHeads.{typed_by, typed_is}
use Rattle.gj_json.proofs.Grammar.UsualTokens.{same_bytes}
use Rattle.gj_json.proofs.Pieces.PieceCuts.{cut_front}
use Rattle.gj_json.proofs.Pieces.PieceRests.{rest_of}
use Rattle.gj_json.proofs.heads.typed_with.Goals as goal

pub returns-clause-typed : goal.returns-clause-typed
returns-clause-typed c = λ some.
    let piece = c.args.piece.now in
    let text = c.usual_text-text.result in
    let name_at = 1 + c.args.inside in
    let P : List ℕ → Type 0 = λ xs. IsUsualText xs text.count text.word in
    typed_by piece c.args.inside c.args.gap text.count text.word c.if-piece-ne123.false (c.has_spaces.ensures c.if-not-has_spaces.false)
    (cut_front piece name_at 7 ∙ same_bytes _ _ c.if-not-begins.ensures) (c.has_spaces-else-not-has_spaces.ensures c.if-not-has_spaces-2.false)
    (subst P (rest_of piece (name_at + 7 + c.args.gap)) (c.usual_text-text.ensures.usual (omega arith))) c.if-piece-comma-ne44.false
    (c.has_spaces-2.ensures c.if-not-has_spaces-3.false) (omega (arith, c.usual_text-text.ensures.short))

pub returns-clause-usual : goal.returns-clause-usual
returns-clause-usual c = λ some. typed_is _ _ _ _ _ _ _ (returns-clause-typed c some)

-- The end of the last member of a feature, and what follows it.
use Rattle.gj_json.proofs.Common.{Close, Object, after_move, ap, close_brace, get_or, inner_of, refl, ◌∙◌, ◌≡◌}
use Rattle.gj_json.specs.declared.class.Class.TheVariants.{CloseObject as close_class}
use Rattle.gj_json.specs.Internal.ByteClasses.{class_of}
use Rattle.gj_json.specs.Internal.OpenLevels.{levels_in}
use Rattle.gj_json.proofs.Grammar.ClassOfBytes.{class_is}
use Rattle.gj_json.proofs.Pieces.TakenTokens.{closes_value, end_closes}
use Rattle.gj_json.proofs.Readers.CallsInTurn.{of_prefix, then_all}
use Rattle.gj_json.proofs.reader.Reader.take_next_feature.Goals as goal

pub returns : goal.returns
returns g c =
    let reader = c.args.self.now in
    let mid = c.take_close-taken.new.self in
    let piece = c.args.piece.now in
    let inside = c.is_in_feature.ensures c.if-not-is_in_feature.false in
    let closes : class_of (get_or piece 0 0) ≡ close_class = ap class_of c.if-piece-ne125.false ∙ class_is close_class close_brace refl (λ e. cc) in
    let made : after_move (inner_of (levels_in reader.levels)) (class_of (get_or piece 0 0)) ≡ Close Object = rw (inside, closes) refl in
    then_all
    (rw (c.take_close-taken.ensures.count) (of_prefix c.requires.some
    (end_closes reader mid piece Object c.requires.some c.requires.takes.0 c.requires.takes.1
    (closes_value reader.mode (inner_of (levels_in reader.levels)) (get_or piece 0 0) Object c.requires.done made) c.take_close-taken.ensures.lands
    (λ events h. c.take_close-taken.ensures.heard events h))))
    c.take_feature_end.ensures

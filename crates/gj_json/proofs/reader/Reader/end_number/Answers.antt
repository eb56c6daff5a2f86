-- A number and the byte after it.
use Rattle.gj_json.proofs.Common.{Array, Close, Go, Item, Level, NameDue, Object, Some, ValueDue, after_move, ap, append_assoc, arith, get_or, inner_of}
use Rattle.gj_json.proofs.Common.{refl, sym, ◌∙◌, ◌≡◌}
use Rattle.gj_json.specs.Internal.ByteClasses.{class_of}
use Rattle.gj_json.specs.Internal.OpenLevels.{levels_in}
use Rattle.gj_json.proofs.Pieces.TokensInLevels.{comma_ends, number_token, ended_token, token_none}
use Rattle.gj_json.proofs.Readers.CallsInTurn.{of_prefix}
use Rattle.gj_json.proofs.reader.Reader.end_number.Goals as goal

pub returns-in-Some-Array : goal.returns-in-Some-Array
returns-in-Some-Array g c =
    let n = c.args.count in
    let inner : inner_of (levels_in c.args.self.now.levels) ≡ Some Array =
    sym c.inner.ensures ∙ c.in-Some-Array.is ∙ ap (λ (x : Level). Some x) c.in-Some-Array.field-0-is in
    let made = comma_ends (inner_of (levels_in c.args.self.now.levels)) (get_or c.args.piece.now n 0) Array ValueDue inner c.if-piece-count-eq44.true refl in
    rw (c.skip.ensures.count) (of_prefix (omega arith)
    (number_token _ _ _ c.args.self.now c.skip.new.self c.args.piece.now n c.args.value c.requires.takes.0 c.requires.due c.requires.takes.1
    c.requires.within c.requires.number c.requires.value ValueDue Item made c.skip.ensures.passed
    (λ events h. c.tell.ensures events h)))

pub returns-in-Some-Object : goal.returns-in-Some-Object
returns-in-Some-Object g c =
    let n = c.args.count in
    let inner : inner_of (levels_in c.args.self.now.levels) ≡ Some Object =
    sym c.inner.ensures ∙ c.in-Some-Object.is ∙ ap (λ (x : Level). Some x) c.in-Some-Object.field-0-is in
    let made = comma_ends (inner_of (levels_in c.args.self.now.levels)) (get_or c.args.piece.now n 0) Object NameDue inner c.if-piece-count-eq44.true refl in
    rw (c.skip-in-Some-Object.ensures.count) (of_prefix (omega arith)
    (number_token _ _ _ c.args.self.now c.skip-in-Some-Object.new.self c.args.piece.now n c.args.value c.requires.takes.0 c.requires.due c.requires.takes.1
    c.requires.within c.requires.number c.requires.value NameDue Item made c.skip-in-Some-Object.ensures.passed
    (λ events h. c.tell-in-Some-Object.ensures events h)))

pub returns-in-Go : goal.returns-in-Go
returns-in-Go g c =
    let n = c.args.count in
    let made : after_move (inner_of (levels_in c.args.self.now.levels)) (class_of (get_or c.args.piece.now n 0)) ≡ Go c.in-Go.mode c.in-Go.field-1 =
    ap (λ i. after_move i (class_of (get_or c.args.piece.now n 0))) (sym c.inner-2.ensures) ∙ sym c.after_value.ensures.value ∙ c.in-Go.is in
    rw (c.skip-in-Go.ensures.count) (of_prefix (omega arith)
    (number_token _ _ _ c.args.self.now c.skip-in-Go.new.self c.args.piece.now n c.args.value c.requires.takes.0 c.requires.due c.requires.takes.1
    c.requires.within c.requires.number c.requires.value c.in-Go.mode c.in-Go.field-1 made c.skip-in-Go.ensures.passed
    (λ events h. c.tell-in-Go.ensures events h)))

pub returns-in-Close : goal.returns-in-Close
returns-in-Close g c =
    let n = c.args.count in
    let made : after_move (inner_of (levels_in c.args.self.now.levels)) (class_of (get_or c.args.piece.now n 0)) ≡ Close c.in-Close.level =
    ap (λ i. after_move i (class_of (get_or c.args.piece.now n 0))) (sym c.inner-2.ensures) ∙ sym c.after_value.ensures.value ∙ c.in-Close.is in
    rw (c.take_close.ensures.count) (of_prefix (omega arith)
    (ended_token _ _ _ c.args.self.now c.take_close.new.self c.args.piece.now n c.args.value c.requires.takes.0 c.requires.due c.requires.takes.1
    c.requires.within c.requires.number c.requires.value c.in-Close.level made c.take_close.ensures.lands
    (λ events h. rw append_assoc at (c.take_close.ensures.heard _ (c.tell-in-Close.ensures events h)))))

pub returns-in-None : goal.returns-in-None
returns-in-None g c = of_prefix (omega arith) (token_none _ _ c.args.self.now c.requires.takes.0)

pub returns-in_default : goal.returns-in_default
returns-in_default g c = of_prefix (omega arith) (token_none _ _ c.args.self.now c.requires.takes.0)

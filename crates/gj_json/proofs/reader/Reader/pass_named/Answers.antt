-- A name, the value after it, and the byte after that.
use Rattle.gj_json.proofs.Common.{FeedsAny, Item, List, NameDue, Nothing, Object, Passed, Some, ValueDone, ap, arith, close_brace, drop, get_or}
use Rattle.gj_json.proofs.Common.{get_or-drop, inner_of, is_white, length, refl, subst, sym, true, ℕ, ◌+◌, ◌-◌, ◌<◌, ◌∙◌, ◌≡◌}
use Rattle.std.proofs.Common.{take, length-drop}
use Rattle.gj_json.specs.Internal.OpenLevels.{levels_in}
use Rattle.gj_json.proofs.Pieces.PassedMembers.{name_to, named_goes, named_closes, brace_closes, before_space, to_space, space_any}
use Rattle.gj_json.proofs.Pieces.PieceRests.{rest_of}
use Rattle.gj_json.proofs.Pieces.TakenTokens.{closes_value}
use Rattle.gj_json.proofs.Pieces.TokensInLevels.{any_closes, any_then, comma_ends, then_any, white_goes}
use Rattle.gj_json.proofs.Readers.CallsInTurn.{of_prefix}
use Rattle.gj_json.proofs.reader.Reader.pass_named.Goals as goal

pub returns-then-piece-end-eq32 : goal.returns-then-piece-end-eq32
returns-then-piece-end-eq32 c =
    let q = c.scalar_run in
    let r = c.requires in
    let reader = c.args.self.now in
    let piece = c.args.piece.now in
    let new = c.skip.new.self in
    let at = c.args.value + q.result + 1 in
    let within : at < length piece = omega arith in
    let e : at + 1 ≡ c.args.value + q.result + 2 = omega arith in
    let P : ℕ → Type 0 = λ k. Passed k NameDue reader new in
    let Q : ℕ → Type 0 = λ k. FeedsAny reader new (take k piece) in
    let passed : Passed (at + 1) NameDue reader new = subst P (sym e) c.skip.ensures.passed in
    let made = comma_ends (inner_of (levels_in reader.levels)) (get_or piece (c.args.value + q.result) 0) Object NameDue
    (c.is_in_object.ensures c.if-is_in_object.true) c.if-piece-end-eq44.true refl in
    rw (c.skip.ensures.count) (of_prefix (omega arith)
    (subst Q e (space_any reader new piece at r.takes.0 r.takes.1 within c.if-piece-end-eq32.true passed
    (named_goes reader (before_space reader new piece at r.takes.0 r.takes.1 within c.if-piece-end-eq32.true passed) piece
    c.args.name c.args.value q.result r.takes.0 r.due r.takes.1 r.quoted r.colon r.between (omega arith) (q.ensures.scalar (omega arith)) NameDue Item made
    (to_space reader new piece at r.takes.0 r.takes.1 within c.if-piece-end-eq32.true passed)))))

pub returns-then-piece-end-eq44 : goal.returns-then-piece-end-eq44
returns-then-piece-end-eq44 c =
    let q = c.scalar_run in
    let r = c.requires in
    let made = comma_ends (inner_of (levels_in c.args.self.now.levels)) (get_or c.args.piece.now (c.args.value + q.result) 0) Object NameDue
    (c.is_in_object.ensures c.if-is_in_object.true) c.if-piece-end-eq44.true refl in
    rw (c.skip-then-piece-end-eq44.ensures.count) (of_prefix (omega arith)
    (named_goes c.args.self.now c.skip-then-piece-end-eq44.new.self c.args.piece.now c.args.name c.args.value q.result r.takes.0 r.due r.takes.1
    r.quoted r.colon r.between (omega arith) (q.ensures.scalar (omega arith)) NameDue Item made c.skip-then-piece-end-eq44.ensures.passed))

pub returns-then-piece-end-eq125 : goal.returns-then-piece-end-eq125
returns-then-piece-end-eq125 c =
    let q = c.scalar_run in
    let r = c.requires in
    let made = brace_closes (inner_of (levels_in c.args.self.now.levels)) (get_or c.args.piece.now (c.args.value + q.result) 0)
    (c.is_in_object.ensures c.if-is_in_object.true) c.if-piece-end-eq125.true in
    rw (c.take_close.ensures.count) (of_prefix (omega arith)
    (named_closes c.args.self.now c.take_close.new.self c.args.piece.now c.args.name c.args.value q.result r.takes.0 r.due r.takes.1 r.quoted r.colon r.between
    (omega arith) (q.ensures.scalar (omega arith)) Object made c.take_close.ensures.lands))

pub returns-then-piece-end-eq125-2 : goal.returns-then-piece-end-eq125-2
returns-then-piece-end-eq125-2 c =
    let q = c.scalar_run in
    let r = c.requires in
    let mid = c.skip-then-piece-end-eq125-2.new.self in
    let close = c.take_close-then-piece-end-eq125-2 in
    let passed = c.skip-then-piece-end-eq125-2.ensures.passed in
    let piece = c.args.piece.now in
    let at = c.args.value + q.result in
    let rest : List ℕ = take (length piece - (at + 1)) (drop (at + 1) piece) in
    let long : length rest ≡ length piece - (at + 1) = ap length (rest_of piece (at + 1)) ∙ length-drop (at + 1) piece in
    let z : at + 1 + 0 ≡ at + 1 = omega arith in
    let first : get_or rest 0 0 ≡ close_brace =
    ap (λ xs. get_or xs 0 0) (rest_of piece (at + 1)) ∙ get_or-drop (at + 1) piece 0 0 ∙ ap (λ i. get_or piece i 0) z ∙ c.if-piece-end-eq125-2.true in
    let white : is_white (get_or piece at 0) ≡ true = rw (c.if-piece-end-eq32-2.true) refl in
    let inner : inner_of (levels_in mid.levels) ≡ Some Object =
    ap (λ ls. inner_of (levels_in ls)) passed.levels ∙ c.is_in_object.ensures c.if-is_in_object.true in
    rw (close.ensures.count) (of_prefix (omega arith)
    (any_then c.args.self.now mid close.new.self piece (at + 1) 1 (omega (arith, ap (λ ls. length (levels_in ls)) passed.levels))
    (named_goes c.args.self.now mid piece c.args.name c.args.value q.result r.takes.0 r.due r.takes.1 r.quoted r.colon r.between (omega arith)
    (q.ensures.scalar (omega arith)) ValueDone Nothing (white_goes (inner_of (levels_in c.args.self.now.levels)) (get_or piece at 0) white) passed)
    (any_closes mid close.new.self rest Object (omega arith) (passed.fault ∙ r.takes.0)
    (omega (arith, long, passed.offset, ap (λ l. l.bytes) passed.limits))
    (closes_value mid.mode (inner_of (levels_in mid.levels)) (get_or rest 0 0) Object passed.mode_is
    (brace_closes (inner_of (levels_in mid.levels)) (get_or rest 0 0) inner first)) close.ensures.lands)))

pub returns : goal.returns
returns c =
    let r = c.requires in
    let passed = c.skip-2.ensures.passed in
    then_any (of_prefix {Holds = FeedsAny c.args.self.now c.skip-2.new.self} (omega arith)
    (name_to c.args.self.now c.skip-2.new.self c.args.piece.now c.args.name r.takes.0 r.due r.takes.1 (omega arith) r.quoted r.colon c.args.value r.between
    (omega arith) passed)) c.pass_value.ensures (omega (arith, ap (λ ls. length (levels_in ls)) passed.levels))

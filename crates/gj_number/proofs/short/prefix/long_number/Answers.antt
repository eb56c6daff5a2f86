use Rattle.gj_number.proofs.Common.{IsNumberByte, arith, bool_byte, false, get_or, length, subst, sym, true, ℕ, ◌+◌, ◌∙◌, ◌≡◌, ◌≤◌}
use Rattle.gj_number.proofs.Shorts.OrdinaryNumbers.{laid, run_rest, natural_allowed, whole_ends, point_goes_on}
use Rattle.gj_number.proofs.Shorts.NumberPrefixes.{sign_at, sign_length, spells_rest, below_power, one_of, whole_plain, point_plain}
use Rattle.gj_number.proofs.short.prefix.long_number.Goals as goal

pub returns-then-not-is_natural-clause-taken : goal.returns-then-not-is_natural-clause-taken
returns-then-not-is_natural-clause-taken c = λ count o.
    let piece = c.args.piece.now in
    let negative = c.args.negative in
    let first = bool_byte negative in
    let k : first ≤ 1 = sign_length negative in
    let natural = c.first_run-natural in
    let n = natural.result.count in
    let l = laid piece negative count c.requires.sign o in
    let few = l.few in
    let e = natural.ensures.whole (length o.ordinary.natural) (run_rest piece first _ l.digits) (omega arith) in
    let t = c.is_natural.ensures.1 (natural_allowed piece first _ _ l n e) in
    let f = c.if-not-is_natural.true in
    let e : true ≡ false = sym t ∙ f in cc

pub returns-then-piece-end-ne46-clause-plain : goal.returns-then-piece-end-ne46-clause-plain
returns-then-piece-end-ne46-clause-plain c = λ positive.
    let piece = c.args.piece.now in
    let negative = c.args.negative in
    let first = bool_byte negative in
    let k : first ≤ 1 = sign_length negative in
    let natural = c.first_run-natural in
    let n = natural.result.count in
    let may = c.is_natural.ensures.0 c.if-not-is_natural.false in
    whole_plain piece negative first n natural.result.value (sign_at piece negative c.requires.sign (omega arith))
    (spells_rest piece first 0 n _ natural.ensures.spells) may.0 (one_of piece first n may.1)

pub returns-then-piece-end-ne46-clause-taken : goal.returns-then-piece-end-ne46-clause-taken
returns-then-piece-end-ne46-clause-taken c = λ count o.
    let piece = c.args.piece.now in
    let negative = c.args.negative in
    let first = bool_byte negative in
    let k : first ≤ 1 = sign_length negative in
    let natural = c.first_run-natural in
    let n = natural.result.count in
    let l = laid piece negative count c.requires.sign o in
    let few = l.few in
    let may = c.is_natural.ensures.0 c.if-not-is_natural.false in
    let some = may.0 in
    let e = natural.ensures.whole (length o.ordinary.natural) (run_rest piece first _ l.digits) (omega arith) in
    (omega arith, whole_ends piece first _ _ l n e c.if-piece-end-ne46.true)

pub fraction_run-fraction-requires-clause-below : goal.fraction_run-fraction-requires-clause-below
fraction_run-fraction-requires-clause-below c = below_power _ _ _ c.first_run-natural.ensures.spells

pub returns-then-fraction-eq0-clause-taken : goal.returns-then-fraction-eq0-clause-taken
returns-then-fraction-eq0-clause-taken c = λ count o.
    let piece = c.args.piece.now in
    let negative = c.args.negative in
    let first = bool_byte negative in
    let k : first ≤ 1 = sign_length negative in
    let natural = c.first_run-natural in
    let n = natural.result.count in
    let l = laid piece negative count c.requires.sign o in
    let few = l.few in
    let e = natural.ensures.whole (length o.ordinary.natural) (run_rest piece first _ l.digits) (omega arith) in
    let p = point_goes_on piece first _ _ l n e c.if-piece-end-ne46.false in
    let f = c.fraction_run-fraction.ensures.whole _ (run_rest piece (first + n + 1) _ p.1) (omega arith) in
    let some = p.0 in
    absurd (omega (arith, c.if-fraction-eq0.true))

pub returns-clause-plain : goal.returns-clause-plain
returns-clause-plain c = λ positive.
    let piece = c.args.piece.now in
    let negative = c.args.negative in
    let first = bool_byte negative in
    let k : first ≤ 1 = sign_length negative in
    let natural = c.first_run-natural in
    let n = natural.result.count in
    let may = c.is_natural.ensures.0 c.if-not-is_natural.false in
    let fraction = c.fraction_run-fraction in
    let m = fraction.result.count in
    let some = may.0 in
    let few : n ≤ 18 = natural.ensures.few in
    point_plain piece negative first n natural.result.value (sign_at piece negative c.requires.sign (omega arith))
    (spells_rest piece first 0 n _ natural.ensures.spells) some (one_of piece first n may.1)
    m fraction.result.value c.if-piece-end-ne46.false (spells_rest piece (first + n + 1) _ m _ fraction.ensures.spells) (omega arith) (omega arith)

pub returns-clause-taken : goal.returns-clause-taken
returns-clause-taken c = λ count o.
    let piece = c.args.piece.now in
    let negative = c.args.negative in
    let first = bool_byte negative in
    let k : first ≤ 1 = sign_length negative in
    let natural = c.first_run-natural in
    let n = natural.result.count in
    let l = laid piece negative count c.requires.sign o in
    let few = l.few in
    let e = natural.ensures.whole (length o.ordinary.natural) (run_rest piece first _ l.digits) (omega arith) in
    let p = point_goes_on piece first _ _ l n e c.if-piece-end-ne46.false in
    let f = c.fraction_run-fraction.ensures.whole _ (run_rest piece (first + n + 1) _ p.1) (omega arith) in
    let P : ℕ → Type 0 = λ m. IsNumberByte (get_or piece (first + n + 1 + m) 0) in
    (omega arith, (λ b. p.2 (subst P f b)))

use Rattle.gj_number.proofs.Common.{List, SpellsUnsigned, ap, arith, bool_byte, drop, get_or, length, length-drop, length-take, subst, take_rest}
use Rattle.gj_number.proofs.Common.{with_value, zero_digit, ℕ, ◌+◌, ◌-◌, ◌∙◌, ◌≡◌, ◌≤◌}
use Rattle.std.specs.List.{fold}
use Rattle.gj_number.proofs.Shorts.NumberPrefixes.{sign_at, sign_length, one_of, short_small, short_plain}
use Rattle.gj_number.proofs.Shorts.PointedNumbers.{slice_pointed, usual_length, one_before_point}
use Rattle.gj_number.proofs.short.pair.digits_before.Goals as goal
use Rattle.gj_number.proofs.short.pair.digits_before.Goals.{else-piece-first-eq48-via-then-piece-first-eq48+else-piece-first-ne46}
use Rattle.gj_number.proofs.short.pair.digits_before.Goals.{else-piece-first-eq48-via-else-piece-first-eq48}

pub returns-clause-small : goal.returns-clause-small
returns-clause-small c =
    let piece = c.args.piece.now in
    let negative = c.args.negative in
    let first = bool_byte negative in
    let k : first ≤ 1 = sign_length negative in
    let found = c.in-Some.found in
    let bytes = found.natural + 1 + found.fraction in
    let value = fold with_value 0 found.digits in
    let P : List ℕ → Type 0 = λ xs. SpellsUnsigned xs found.natural found.fraction bytes value in
    let lead : get_or piece first 0 ≡ zero_digit → found.natural ≡ 1 = λ z. elim c.else-piece-first-eq48.branch [
      | else-piece-first-eq48-via-then-piece-first-eq48+else-piece-first-ne46 w ↦
          (let some = c.in-Some.ensures.some in
          let all = subst P (take_rest piece first) c.in-Some.ensures.spells in
          let few = c.in-Some.ensures.few in
          let h = one_before_point piece first found.natural (omega (arith, length-drop first piece)) all.natural_digits w.if-piece-first-ne46.false in
          omega arith)
      | else-piece-first-eq48-via-else-piece-first-eq48 w ↦ absurd (w.if-piece-first-eq48.false z)
    ] in
    let s = short_small piece negative first found.natural found.fraction bytes value (sign_at piece negative c.requires.sign (omega arith))
    (subst P (take_rest piece first) c.in-Some.ensures.spells) c.in-Some.ensures.some (one_of piece first found.natural lead) c.in-Some.ensures.few
    (omega arith) in
    s.1

pub returns-clause-spells : goal.returns-clause-spells
returns-clause-spells c =
    let piece = c.args.piece.now in
    let negative = c.args.negative in
    let first = bool_byte negative in
    let k : first ≤ 1 = sign_length negative in
    let found = c.in-Some.found in
    let bytes = found.natural + 1 + found.fraction in
    let value = fold with_value 0 found.digits in
    let P : List ℕ → Type 0 = λ xs. SpellsUnsigned xs found.natural found.fraction bytes value in
    let lead : get_or piece first 0 ≡ zero_digit → found.natural ≡ 1 = λ z. elim c.else-piece-first-eq48.branch [
      | else-piece-first-eq48-via-then-piece-first-eq48+else-piece-first-ne46 w ↦
          (let some = c.in-Some.ensures.some in
          let all = subst P (take_rest piece first) c.in-Some.ensures.spells in
          let few = c.in-Some.ensures.few in
          let h = one_before_point piece first found.natural (omega (arith, length-drop first piece)) all.natural_digits w.if-piece-first-ne46.false in
          omega arith)
      | else-piece-first-eq48-via-else-piece-first-eq48 w ↦ absurd (w.if-piece-first-eq48.false z)
    ] in
    short_plain piece negative first found.natural found.fraction bytes value (sign_at piece negative c.requires.sign (omega arith))
    (subst P (take_rest piece first) c.in-Some.ensures.spells) c.in-Some.ensures.some (one_of piece first found.natural lead) c.in-Some.ensures.few
    (omega arith)

pub returns-in_default-clause-taken : goal.returns-in_default-clause-taken
returns-in_default-clause-taken c = λ n u. c.in_default.ensures.taken _ _ (slice_pointed c.args.piece.now c.args.negative n c.args.after c.requires.sign u)

pub returns-then-piece-length-clause-taken : goal.returns-then-piece-length-clause-taken
returns-then-piece-length-clause-taken c = λ n u.
    let piece = c.args.piece.now in
    let negative = c.args.negative in
    let first = bool_byte negative in
    let k : first ≤ 1 = sign_length negative in
    let found = c.in-Some.found in
    let is = c.in-Some.ensures in
    absurd (c.if-piece-length.true
    (ap (λ i. get_or piece i 0)
    (usual_length piece negative n c.args.after c.requires.sign u found.natural found.fraction _ _ is.spells is.point is.ends is.few
    (omega (arith, length-drop first piece, length-take (length piece - first) (drop first piece)))) ∙ u.ends))

pub returns-clause-whole : goal.returns-clause-whole
returns-clause-whole c = λ n u.
    let piece = c.args.piece.now in
    let negative = c.args.negative in
    let first = bool_byte negative in
    let k : first ≤ 1 = sign_length negative in
    let found = c.in-Some.found in
    let is = c.in-Some.ensures in
    usual_length piece negative n c.args.after c.requires.sign u found.natural found.fraction _ _ is.spells is.point is.ends is.few
    (omega (arith, length-drop first piece, length-take (length piece - first) (drop first piece)))

-- The digits before the point, and those after it.
use Rattle.gj_number.proofs.Common.{IsRun, ap, arith, decimal_point, drop, subst, ℕ, get_or, get_or-drop, inl, inr, refl, sym, ◌+◌, ◌∙◌, ◌≡◌}
use Rattle.std.proofs.lemmas.List.Elements.{All-nil}
use Rattle.gj_number.proofs.Common.{IsDigit}
use Rattle.gj_number.proofs.Shorts.DigitSpans.{after_digits, after_found, before_is, before_run}
use Rattle.gj_number.proofs.short.cuts.digit_span.Goals as goal
use Rattle.gj_number.proofs.short.cuts.digit_span.Goals.{then-natural-eq0-via-then-natural-eq0, then-natural-eq0-via-else-natural-eq0+then-natural-gt3}
use Rattle.gj_number.proofs.short.cuts.digit_span.Goals.{then-natural-eq0-via-else-natural-eq0+else-natural-gt3+then-not-may_lead}
use Rattle.gj_number.proofs.short.cuts.digit_span.Goals.{then-fraction-eq0-via-then-fraction-eq0, then-fraction-eq0-via-else-fraction-eq0+then-fraction-gt15}

pub returns-then-natural-eq0-clause-taken : goal.returns-then-natural-eq0-clause-taken
returns-then-natural-eq0-clause-taken c = λ n f s few few_after some.
    let e = before_is c.args.piece.now c.type_inv.piece c.args.first c.requires c.lanes_of.result c.lanes_of.ensures _ c.from_ten-others.ensures n s.digits few in
    elim c.then-natural-eq0.branch [
      | then-natural-eq0-via-then-natural-eq0 w ↦ absurd (omega (arith, w.if-natural-eq0.true))
      | then-natural-eq0-via-else-natural-eq0+then-natural-gt3 w ↦ absurd (omega (arith, w.if-natural-gt3.true))
      | then-natural-eq0-via-else-natural-eq0+else-natural-gt3+then-not-may_lead w ↦
          (let yes = w.may_lead.ensures.1 (λ z. e ∙ s.one (get_or-drop c.args.first c.args.piece.now 0 0
          ∙ ap (λ k. get_or c.args.piece.now k 0) {x = c.args.first + 0} {y = c.args.first} (omega arith) ∙ z)) in let no = w.if-not-may_lead.true in cc)
    ]

pub returns-then-piece-point-ne46-clause-span : goal.returns-then-piece-point-ne46-clause-span
returns-then-piece-point-ne46-clause-span c =
    let few = c.if-natural-gt3.false in
    let r = before_run c.args.piece.now c.type_inv.piece c.args.first c.requires c.lanes_of.result c.lanes_of.ensures _ c.from_ten-others.ensures (omega arith) in
    record {
      some = omega (arith, c.if-natural-eq0.false);
      few = omega arith;
      few_after = omega arith;
      natural_digits = r.digits;
      fraction_digits = All-nil IsDigit;
      one = c.may_lead.ensures.0 c.if-not-may_lead.false;
      shape = inl (refl, refl);
      room = c.requires;
    }

pub returns-then-fraction-eq0-clause-taken : goal.returns-then-fraction-eq0-clause-taken
returns-then-fraction-eq0-clause-taken c = λ n f s few few_after some.
    let piece = c.args.piece.now in
    let e = before_is piece c.type_inv.piece c.args.first c.requires c.lanes_of.result c.lanes_of.ensures _ c.from_ten-others.ensures n s.digits few in
    let point : get_or (drop c.args.first piece) n 0 ≡ decimal_point =
    get_or-drop c.args.first piece n 0 ∙ ap (λ k. get_or piece (c.args.first + k) 0) (sym e) ∙ c.if-piece-point-ne46.false in
    let more = s.more point in
    let P : ℕ → Type 0 = λ k. IsRun (drop (k + 1) (drop c.args.first piece)) f in
    let t =
    after_found piece c.type_inv.piece c.args.first c.requires c.lanes_of.result c.lanes_of.ensures _ c.from_ten-others.ensures (omega arith)
    c.digits_after-fraction.result c.digits_after-fraction.ensures.near c.digits_after-fraction.ensures.far f (subst P (sym e) more.0) more.1 few_after in
    elim c.then-fraction-eq0.branch [
      | then-fraction-eq0-via-then-fraction-eq0 w ↦ absurd (omega (arith, w.if-fraction-eq0.true, t.0))
      | then-fraction-eq0-via-else-fraction-eq0+then-fraction-gt15 w ↦ absurd (omega (arith, w.if-fraction-gt15.true, t.1))
    ]

pub returns-clause-span : goal.returns-clause-span
returns-clause-span c =
    let few = c.if-natural-gt3.false in
    let piece = c.args.piece.now in
    let r = before_run piece c.type_inv.piece c.args.first c.requires c.lanes_of.result c.lanes_of.ensures _ c.from_ten-others.ensures (omega arith) in
    record {
      some = omega (arith, c.if-natural-eq0.false);
      few = omega arith;
      few_after = omega (arith, c.if-fraction-gt15.false);
      natural_digits = r.digits;
      fraction_digits =
          after_digits piece c.type_inv.piece c.args.first c.requires c.lanes_of.result c.lanes_of.ensures _ c.from_ten-others.ensures (omega arith)
          c.digits_after-fraction.result c.digits_after-fraction.ensures.near c.digits_after-fraction.ensures.far c.if-piece-point-ne46.false
          c.if-fraction-eq0.false;
      one = c.may_lead.ensures.0 c.if-not-may_lead.false;
      shape = inr (omega (arith, c.if-fraction-eq0.false), c.if-piece-point-ne46.false, refl);
      room = c.requires;
    }

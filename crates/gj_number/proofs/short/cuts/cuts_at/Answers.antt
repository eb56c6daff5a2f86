-- The digits of both in their lanes, and whether those in none say nothing more.
use Rattle.gj_number.proofs.Common.{SFits, ap, arith, rules, signed, sym, to_z-of_z, true, w64, ◌<◌, ◌∙◌, ◌≡◌}
use Rattle.gj_number.proofs.Shorts.CutPairs.{cut_there, span_small}
use Rattle.gj_number.proofs.short.cuts.cuts_at.Goals as goal
use Rattle.gj_number.proofs.short.cuts.cuts_at.Goals.{then-one-gt12+else-not-is_judged+else-not-is_judged-2, else-one-gt12+else-other-gt12}

pub cuts_of-value-requires-clause-first : goal.cuts_of-value-requires-clause-first
cuts_of-value-requires-clause-first c = span_small c.args.piece.now c.type_inv.piece c.args.one c.requires.one _ c.placed_digits-first.ensures

pub cuts_of-value-requires-clause-second : goal.cuts_of-value-requires-clause-second
cuts_of-value-requires-clause-second c = span_small c.args.piece.now c.type_inv.piece c.args.other c.requires.other _ c.placed_digits-second.ensures

pub returns-clause-first : goal.returns-clause-first
returns-clause-first c = λ at sign first_is behind.
    let told = c.rests_of-precise.ensures in
    let fits : SFits w64 c.with_sign.result = search rules in
    let judged : 12 < c.args.one.fraction → c.rests_of-precise.result.0 ≡ true = elim c.if-one-gt12.branch [
      | then-one-gt12+else-not-is_judged+else-not-is_judged-2 w ↦ w.is_judged.ensures.judged w.if-not-is_judged.false
      | else-one-gt12+else-other-gt12 w ↦ (λ more. absurd (omega (arith, w.if-one-gt12.false)))
    ] in
    cut_there c.args.piece.now c.type_inv.piece c.args.one c.requires.one _ c.placed_digits-first.ensures at c.args.negative sign first_is behind
    c.rests_of-precise.result.0 judged told.first_some told.first_none _
    (ap (signed c.args.negative) (sym c.cuts_of-value.ensures.first) ∙ sym c.with_sign.ensures ∙ sym (to_z-of_z w64 c.with_sign.result fits))

pub returns-clause-second : goal.returns-clause-second
returns-clause-second c = λ at sign first_is behind.
    let told = c.rests_of-precise.ensures in
    let fits : SFits w64 c.with_sign-2.result = search rules in
    let judged : 12 < c.args.other.fraction → c.rests_of-precise.result.1 ≡ true = elim c.if-one-gt12.branch [
      | then-one-gt12+else-not-is_judged+else-not-is_judged-2 w ↦ w.is_judged-else-not-is_judged.ensures.judged w.if-not-is_judged-2.false
      | else-one-gt12+else-other-gt12 w ↦ (λ more. absurd (omega (arith, w.if-other-gt12.false)))
    ] in
    cut_there c.args.piece.now c.type_inv.piece c.args.other c.requires.other _ c.placed_digits-second.ensures at c.args.other_negative sign first_is behind
    c.rests_of-precise.result.1 judged told.second_some told.second_none _
    (ap (signed c.args.other_negative) (sym c.cuts_of-value.ensures.second) ∙ sym c.with_sign-2.ensures ∙ sym (to_z-of_z w64 c.with_sign-2.result fits))

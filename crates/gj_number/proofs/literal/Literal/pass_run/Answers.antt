use Rattle.gj_number.proofs.Common.{Scan, false, length, length-take-le, refl, start, sym, take, true, with_digit, ◌+◌, ◌∙◌, ◌≡◌}
use Rattle.std.proofs.Common.{fold}
use Rattle.gj_number.specs.Literal.{StandsFor}
use Rattle.gj_number.proofs.Grammar.ScanPaths.{reaches_on}
use Rattle.gj_number.proofs.Literals.LiteralBytes.{natural_on, fraction_on, exponent_on}
use Rattle.gj_number.proofs.literal.Literal.pass_run.Goals as goal

pub returns-in-InNatural-clause-stands : goal.returns-in-InNatural-clause-stands
unfolding StandsFor
returns-in-InNatural-clause-stands c bytes h =
    let digits = take c.pass_natural.result c.args.piece.now in
    let state = sym h.2.state ∙ c.in-InNatural.is in
    let next : Scan = record h.0 { whole = fold with_digit h.0.whole digits } in
    let none = h.2.before_fraction (rw state refl) in (
      next,
      reaches_on start h.0 next bytes digits h.1 (natural_on h.0 digits state c.pass_natural.ensures.digits),
      record {
        state = h.2.state;
        negative = h.2.negative;
        digits = rw none (c.pass_natural.ensures.keeps h.0.whole (rw none at h.2.digits));
        exponent_negative = h.2.exponent_negative;
        exponent = h.2.exponent;
        before_fraction = h.2.before_fraction;
      },
    )

pub returns-in-InFraction-clause-stands : goal.returns-in-InFraction-clause-stands
unfolding StandsFor
returns-in-InFraction-clause-stands c bytes h =
    let n = c.pass_fraction.result in
    let digits = take n c.args.piece.now in
    let state = sym h.2.state ∙ c.in-InFraction.is in
    let many : length digits ≡ n = length-take-le n c.args.piece.now c.pass_fraction.ensures.length in
    let next : Scan = record h.0 { whole = fold with_digit h.0.whole digits; fraction = h.0.fraction + length digits } in (
      next,
      reaches_on start h.0 next bytes digits h.1 (fraction_on h.0 digits state c.pass_fraction.ensures.digits),
      record {
        state = h.2.state;
        negative = h.2.negative;
        digits = rw many (c.pass_fraction.ensures.keeps h.0.whole h.0.fraction h.2.digits);
        exponent_negative = h.2.exponent_negative;
        exponent = h.2.exponent;
        before_fraction = (λ e. absurd (let f : false ≡ true = rw state at e in cc));
      },
    )

pub returns-in-InExponent-clause-stands : goal.returns-in-InExponent-clause-stands
unfolding StandsFor
returns-in-InExponent-clause-stands c bytes h =
    let digits = take c.pass_run.result c.args.piece.now in
    let state = sym h.2.state ∙ c.in-InExponent.is in
    let next : Scan = record h.0 { exponent = fold with_digit h.0.exponent digits } in (
      next,
      reaches_on start h.0 next bytes digits h.1 (exponent_on h.0 digits state c.pass_run.ensures.digits),
      record {
        state = h.2.state;
        negative = h.2.negative;
        digits = h.2.digits;
        exponent_negative = h.2.exponent_negative;
        exponent = c.pass_run.ensures.magnitude h.0.exponent h.2.exponent;
        before_fraction = h.2.before_fraction;
      },
    )

use Rattle.std.proofs.Common.{◌+◌, Some, ap, sym, refl, ◌∙◌, subst, true≢false}
use Rattle.std.proofs.lemmas.List.{take_rest}
use Rattle.memchr.specs.Find.{FindsLastNeedle, IsFirstByte, is_byte}
use Rattle.geolint_report.specs.declared.own_build.place.TheConstants.{MARK}
use Rattle.geolint_report.specs.BuildPlaces.{is_text}
use Rattle.geolint_report.proofs.own_build.place.build_place.Goals as goal

pub returns-then-not-is_text-clause-place : goal.returns-then-not-is_text-clause-place
returns-then-not-is_text-clause-place c = (
  Some c.in-Some.mark,
  subst (FindsLastNeedle c.args.file.now MARK) c.in-Some.is c.rfind.ensures,
  λ starts. absurd (true≢false (sym starts
      ∙ (ap is_text (sym (take_rest c.args.file.now (c.in-Some.mark + 14))) ∙ (sym c.is_text.ensures ∙ c.if-not-is_text.true)))),
)

pub returns-in-Some-memchr-clause-place : goal.returns-in-Some-memchr-clause-place
returns-in-Some-memchr-clause-place c = (
  Some c.in-Some.mark,
  subst (FindsLastNeedle c.args.file.now MARK) c.in-Some.is c.rfind.ensures,
  (
    ap is_text (sym (take_rest c.args.file.now (c.in-Some.mark + 14))) ∙ (sym c.is_text.ensures ∙ c.if-not-is_text.false),
    c.in-Some-memchr.count,
    subst (λ rest. IsFirstByte (is_byte 0) rest (Some c.in-Some-memchr.count)) (take_rest c.args.file.now (c.in-Some.mark + 14))
        (subst (IsFirstByte (is_byte 0) _) c.in-Some-memchr.is c.memchr.ensures),
    refl,
    refl,
  ),
)

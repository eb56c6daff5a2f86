use Rattle.std.proofs.Common.{◌∙◌, arith, sym, ap, subst}
use Rattle.std.specs.Prelude.{IfSome}
use Rattle.file_parts.specs.declared.checked.CheckedPart.{CheckedPart}
use Rattle.file_parts.specs.Likely.{HasRun}
use Rattle.file_parts.specs.Sums.{IsTruePart, part_of}
use Rattle.file_parts.proofs.FoundParts.{none_in, run_in, true_in, true_none}
use Rattle.file_parts.proofs.collections.checked.check_features.Goals as goal
use Rattle.file_parts.proofs.collections.checked.check_features.Goals.{in-Some+in_ok-likely_place-in-Some+in_ok-read_run-in-Some, in-None}

pub returns-clause-part : goal.returns-clause-part
returns-clause-part g c =
    let known = g.S.Source.text c.args.source.now in
    let P : CheckedPart → Type 0 = λ part. IfSome known (λ text. IsTruePart c.args.limits text part) in
    elim c.match-branch-2.branch [
      | in-Some+in_ok-likely_place-in-Some+in_ok-read_run-in-Some w ↦ subst P (sym (c.part_of.ensures ∙ ap part_of w.sum-is))
          (true_in known (g.S.Source.text w.likely_place-in-Some.new.source) c.args.limits _
          (w.likely_place-in-Some.ensures.text ∙ c.likely_place.ensures.text) w.in_ok-read_run-in-Some.ensures.sum)
      | in-None w ↦ subst P (sym (c.part_of.ensures ∙ ap part_of w.sum-is))
          (true_none known c.args.limits _ (w.no_features-sum.ensures.0 ∙ sym w.no_features-sum.ensures.1))
    ]

pub returns-clause-run : goal.returns-clause-run
returns-clause-run g c =
    let known = g.S.Source.text c.args.source.now in
    let P : CheckedPart → Type 0 = λ part. IfSome known (λ text. HasRun c.args.limits text c.args.share c.args.size part) in
    elim c.match-branch-2.branch [
      | in-Some+in_ok-likely_place-in-Some+in_ok-read_run-in-Some w ↦ subst P (sym (c.part_of.ensures ∙ ap part_of w.sum-is))
          (run_in c.args.limits c.args.share c.args.size c.from.result c.until-until.result c.from.ensures.value c.until-until.ensures.value
          c.in_ok-begin.field-0 known (g.S.Source.text c.likely_place.new.source) (g.S.Source.text w.likely_place-in-Some.new.source) w.in-Some.begin
          w.unwrap_or-end.result w.in_ok-likely_place-in-Some.field-0 w.in_ok-read_run-in-Some.field-0 w.in-Some.is c.likely_place.ensures.text
          (w.likely_place-in-Some.ensures.text ∙ c.likely_place.ensures.text) w.unwrap_or-end.ensures (omega (arith, c.ranges.size.fits))
          c.in_ok-begin.ensures.likely w.in_ok-likely_place-in-Some.ensures.likely w.in_ok-read_run-in-Some.ensures.read)
      | in-None w ↦ subst P (sym (c.part_of.ensures ∙ ap part_of w.sum-is))
          (none_in c.args.limits c.args.share c.args.size c.from.result c.until-until.result c.from.ensures.value c.until-until.ensures.value
          c.in_ok-begin.field-0 known _ w.in-None.is (w.no_features-sum.ensures.0 ∙ sym w.no_features-sum.ensures.1) c.in_ok-begin.ensures.likely)
    ]

use Rattle.report_forms.proofs.Common.{arith, ap, ◌∙◌, subst, ◌≡◌, ◌<◌, ◌++◌, ℕ, List, length, take, get_or, sym, append_assoc, flat_map, steps_of}
use Rattle.std.proofs.lemmas.List.{take_all}
use Rattle.std.proofs.lemmas.Option.{get_or_from_slice_get, slice_get-get_or}
use Rattle.gj_json.specs.declared.path.PathStep.{PathStep}
use Rattle.gj_json.specs.declared.path.PathStep.TheVariants.{Index}
use Rattle.report_forms.specs.Forms.Messages.{step_text, steps_text}
use Rattle.report_forms.proofs.texts.put_steps.Goals as goal
use Rattle.report_forms.proofs.texts.put_steps.Goals.{in-Some+in_ok-put_step, in_default}
use Rattle.geolint_report.proofs.ElementsInTurn.{part-more}

pub loop-i-preserved : goal.loop-i-preserved
loop-i-preserved c =
    let steps = steps_of c.args.path.now in
    let within : c.loop-i.i < length steps = omega (arith, c.loop-i-test.true, c.len-i-end.ensures.value) in
    elim c.match-step.branch [
      | in-Some+in_ok-put_step w ↦
          let here = get_or_from_slice_get steps c.loop-i.i w.in-Some.step (Index 0) (sym c.step.ensures ∙ w.in-Some.is) in
          let more = part-more step_text steps c.loop-i.i w.in-Some.step (Index 0) within here in
          let before = flat_map step_text (take c.loop-i.i steps) in
          let start = c.args.line.now.items in
          rw (w.line-is) (record {
            done = w.in_ok-put_step.ensures ∙ ap (λ (xs : List ℕ). xs ++ step_text w.in-Some.step) c.loop-i.invariant.done
                ∙ append_assoc start before (step_text w.in-Some.step) ∙ ap (λ (xs : List ℕ). start ++ xs) (sym more);
          })
      | in_default w ↦ absurd (w.in_default.not-Some (get_or steps c.loop-i.i (Index 0)) (c.step.ensures ∙ slice_get-get_or steps c.loop-i.i (Index 0) within))
    ]

pub returns : goal.returns
unfolding steps_text
returns c =
    let all : take c.loop-i.i (steps_of c.args.path.now) ≡ steps_of c.args.path.now =
    take_all c.loop-i.i (steps_of c.args.path.now) (omega (arith, c.loop-i-test.false, c.len-i-end.ensures.value)) in
    subst (λ (steps : List PathStep). c.loop-i.line.items ≡ c.args.line.now.items ++ flat_map step_text steps) all c.loop-i.invariant.done

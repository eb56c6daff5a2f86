use Rattle.report_forms.proofs.Common.{arith, ap, ◌∙◌, subst, ◌≡◌, ◌<◌, ◌&&◌, Bool, List, length, take, get_or, sym, steps_of}
use Rattle.std.specs.List.{list_all}
use Rattle.std.proofs.lemmas.List.{take_all}
use Rattle.std.proofs.lemmas.List.Folds.{list_all_more}
use Rattle.std.proofs.lemmas.Option.{get_or_from_slice_get, slice_get-get_or}
use Rattle.gj_json.specs.declared.path.PathStep.{PathStep}
use Rattle.gj_json.specs.declared.path.PathStep.TheVariants.{Index}
use Rattle.report_forms.specs.Forms.Pointers.{is_named}
use Rattle.report_forms.proofs.formats.pointer.are_named.Goals as goal
use Rattle.report_forms.proofs.formats.pointer.are_named.Goals.{in-Some, in_default}

pub loop-i-preserved : goal.loop-i-preserved
loop-i-preserved c =
    let steps = steps_of c.args.path.now in
    let i = c.loop-i.i in
    let within : i < length steps = omega (arith, c.loop-i-test.true, c.len-i-end.ensures.value) in
    elim c.match-step.branch [
      | in-Some w ↦
          let here = get_or_from_slice_get steps i w.in-Some.step (Index 0) (sym c.step.ensures ∙ w.in-Some.is) in
          rw (w.are_named-is) (record {
            done = ap (λ (b : Bool). b && w.is_named-are_named.result) c.loop-i.invariant.done
                ∙ (ap (λ (b : Bool). list_all is_named (take i steps) && b) (w.is_named-are_named.ensures ∙ ap is_named (sym here))
                ∙ sym (list_all_more is_named steps i (Index 0) within));
          })
      | in_default w ↦ absurd (w.in_default.not-Some (get_or steps i (Index 0)) (c.step.ensures ∙ slice_get-get_or steps i (Index 0) within))
    ]

pub returns : goal.returns
returns c =
    let all : take c.loop-i.i (steps_of c.args.path.now) ≡ steps_of c.args.path.now =
    take_all c.loop-i.i (steps_of c.args.path.now) (omega (arith, c.loop-i-test.false, c.len-i-end.ensures.value)) in
    subst (λ (steps : List PathStep). c.loop-i.are_named ≡ list_all is_named steps) all c.loop-i.invariant.done

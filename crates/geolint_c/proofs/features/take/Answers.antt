-- What was taken up to the place.
use Rattle.std.proofs.Common.{◌≡◌, ◌≤◌, ℕ, ◌+◌, ◌-◌, true, false, if◌then◌else◌, List, ◌++◌, length, length-drop, take, drop, append_assoc, sym, ap, subst, ◌∙◌}
use Rattle.std.proofs.Common.{arith, take-add}
use Rattle.std.proofs.lemmas.List.{take_all}
use Rattle.gj_rules.specs.FeatureFindings.{commas}
use Rattle.gj_rules.specs.FeatureLinter.{refusal_of}
use Rattle.geolint_c.specs.declared.finding.Progress.{Progress}
use Rattle.geolint_c.specs.declared.latest.TheConstants.{ROOM}
use Rattle.geolint_c.specs.Features.{Judges, tells_more}
use Rattle.geolint_c.specs.Internal.Pulling.{Takes, most_in}
use Rattle.geolint_c.specs.Handle.{AnswersBy, status_of}
use Rattle.geolint_c.proofs.PulledFeatures.{room_for}
use Rattle.geolint_c.proofs.features.take.Goals as goal

-- what stands from one place to a later one
further : (P : List ℕ → Type 0) (bytes piece : List ℕ) (at more : ℕ) → P ((bytes ++ take at piece) ++ take ((at + more) - at) (drop at piece))
    → P (bytes ++ take (at + more) piece)
further P bytes piece at more h =
    let e : (at + more) - at ≡ more = omega arith in
    subst P (append_assoc bytes (take at piece) (take ((at + more) - at) (drop at piece))
    ∙ ap (λ xs. bytes ++ xs) (ap (λ n. take at piece ++ take n (drop at piece)) e ∙ sym (take-add at more piece))) h

pub loop-at-init : goal.loop-at-init
loop-at-init c = record {
  within = omega arith;
  judges = λ limits bytes j. c.feed_run-shown.ensures.judges c.args.pulled limits bytes j
      (λ text rest t few. let r = j.room text rest t few in (r.0, omega (arith, r.1)));
  answer = λ limits bytes j. c.feed_run-shown.ensures.answer c.args.pulled limits bytes j;
}

pub loop-at-preserved : goal.loop-at-preserved
loop-at-preserved c =
    let l = c.loop-at in
    let piece = c.args.piece.now in
    let pulled = c.args.pulled in
    let run = take ((l.at + c.few_commas.result) - l.at) (drop l.at piece) in
    let part : (l.at + c.few_commas.result) - l.at ≡ c.few_commas.result = omega arith in
    let same = ap (λ n. commas (take n (drop l.at piece))) part in
    let rest : take (length piece - l.at) (drop l.at piece) ≡ drop l.at piece =
    take_all (length piece - l.at) (drop l.at piece) (omega (arith, length-drop l.at piece)) in
    let in_rest = ap (λ bs. commas (take c.few_commas.result bs)) rest in
    let short : most_in run ≤ ROOM = (let few = c.few_commas.ensures.few in omega (arith, few, in_rest, same)) in
    let none : tells_more l.linter pulled ≡ false = sym c.tells_more.ensures.value ∙ c.if-tells_more.false in
    record {
      within = omega (arith, c.few_commas.ensures.within, c.loop-at-test.true, l.invariant.within);
      judges = λ limits bytes j.
          let k = l.invariant.judges limits bytes j in
          further (λ bs. Judges c.feed_run-shown-in-loop-at.new.linter pulled limits bs) bytes piece l.at c.few_commas.result
          (c.feed_run-shown-in-loop-at.ensures.judges pulled limits (bytes ++ take l.at piece) k
          (room_for l.linter pulled limits (bytes ++ take l.at piece) run none c.tells_more.ensures.counted k short));
      answer = λ limits bytes j.
          let k = l.invariant.judges limits bytes j in
          further (λ bs. AnswersBy limits bs (status_of c.feed_run-shown-in-loop-at.result) (refusal_of c.feed_run-shown-in-loop-at.new.linter)) bytes piece
          l.at c.few_commas.result
          (c.feed_run-shown-in-loop-at.ensures.answer pulled limits (bytes ++ take l.at piece) k);
    }

pub returns-then-tells_more : goal.returns-then-tells_more
returns-then-tells_more c =
    let l = c.loop-at in
    let more : tells_more l.linter c.args.pulled ≡ true = sym c.tells_more.ensures.value ∙ c.if-tells_more.true in
    subst (λ (t : Progress). Takes c.args.linter.now c.args.pulled c.args.piece.now t l.linter) (sym c.progress_of.ensures)
    (record {
      within = l.invariant.within;
      judges = l.invariant.judges;
      answer = λ limits bytes j. subst (λ n. AnswersBy limits (bytes ++ take l.at c.args.piece.now) n (refusal_of l.linter)) (sym c.status_of-early.ensures)
          (l.invariant.answer limits bytes j);
      ready = ap (λ b. if b then 1 else 0) (sym more);
      all = λ e. (let f : true ≡ false = sym more ∙ e in cc);
    })

pub returns : goal.returns
returns c =
    let l = c.loop-at in
    let piece = c.args.piece.now in
    let full : l.at ≡ length piece = (let w = l.invariant.within in let t = c.loop-at-test.false in omega (arith, w, t)) in
    subst (λ (t : Progress). Takes c.args.linter.now c.args.pulled piece t l.linter) (sym c.progress_of-2.ensures)
    (record {
      within = l.invariant.within;
      judges = l.invariant.judges;
      answer = λ limits bytes j. subst (λ n. AnswersBy limits (bytes ++ take l.at piece) n (refusal_of l.linter)) (sym c.status_of-status.ensures)
          (l.invariant.answer limits bytes j);
      ready = ap (λ b. if b then 1 else 0) c.tells_more-ready.ensures.value;
      all = λ e. full;
    })

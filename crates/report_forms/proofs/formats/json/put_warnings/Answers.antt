use Rattle.report_forms.proofs.Common.{arith, ap, sym, subst, ◌∙◌, ◌≡◌, ◌++◌, ◌+◌, ◌&&◌, ℕ, Bool, List, length, take, get_or, append_assoc, flat_map}
use Rattle.report_forms.proofs.Common.{W1, kinds}
use Rattle.report_forms.specs.Forms.Json.{json_kind, json_warnings, with_commas}
use Rattle.report_forms.specs.Internal.WrittenCommas.{is_none_yet, next_items}
use Rattle.report_forms.proofs.CommasBetween.{commas-more, none-more}
use Rattle.report_forms.proofs.formats.json.put_warnings.Goals as goal
use Rattle.geolint_report.proofs.ElementsInTurn.{parts-more}

pub loop-kind-preserved : goal.loop-kind-preserved
loop-kind-preserved c =
    let part = json_kind c.args.report.now c.args.warnings.now in
    let before : List (List ℕ) = flat_map part (take c.loop-kind.kind-index kinds) in
    let here : List (List ℕ) = part (get_or kinds c.loop-kind.kind-index W1) in
    let more : flat_map part (take (c.loop-kind.kind-index + 1) kinds) ≡ before ++ here =
    parts-more part kinds c.loop-kind.kind-index W1 c.loop-kind-test.true in
    let start = c.args.line.now.items in
    record {
      done = c.in_ok-still.ensures.bytes
          ∙ (ap (λ (ys : List ℕ). ys ++ next_items c.loop-kind.is_first here) c.loop-kind.invariant.done
          ∙ (append_assoc start (with_commas before) (next_items c.loop-kind.is_first here)
          ∙ ap (λ (ys : List ℕ). start ++ ys) (ap (λ (b : Bool). with_commas before ++ next_items b here) c.loop-kind.invariant.first
          ∙ (sym (commas-more before here) ∙ ap (λ (items : List (List ℕ)). with_commas items) (sym more)))));
      first = c.in_ok-still.ensures.still
          ∙ (ap (λ (b : Bool). b && is_none_yet here) c.loop-kind.invariant.first
          ∙ (sym (none-more before here) ∙ ap (λ (items : List (List ℕ)). is_none_yet items) (sym more)));
    }

pub returns : goal.returns
unfolding json_warnings
returns c =
    let part = json_kind c.args.report.now c.args.warnings.now in
    let end : c.loop-kind.kind-index ≡ length kinds = omega (arith, c.loop-kind-test.false, c.loop-kind.auto.kind-index-end) in
    subst (λ (i : ℕ). c.loop-kind.line.items ≡ c.args.line.now.items ++ with_commas (flat_map part (take i kinds))) end c.loop-kind.invariant.done

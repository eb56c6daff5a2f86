use Rattle.std.proofs.Common.{arith, ap, ◌∙◌, subst, ◌≡◌, ◌++◌, ℕ, List, length, take, get_or, sym, append_assoc}
use Rattle.std.specs.List.{flat_map}
use Rattle.gj_coords.specs.declared.kind.Kind.TheVariants.{W1}
use Rattle.gj_coords.specs.Warnings.{kinds}
use Rattle.geolint.specs.Room.{written_in}
use Rattle.geolint.specs.VerdictReport.{told_line, told_lines}
use Rattle.geolint.proofs.report.warnings.push_warnings.Goals as goal
use Rattle.geolint_report.proofs.ElementsInTurn.{parts-more}

pub loop-kind-preserved : goal.loop-kind-preserved
loop-kind-preserved c =
    let line = told_line c.args.warnings.now in
    let before = flat_map line (take c.loop-kind.kind-index kinds) in
    let here = line (get_or kinds c.loop-kind.kind-index W1) in
    let more = parts-more line kinds c.loop-kind.kind-index W1 c.loop-kind-test.true in
    let start = written_in c.args.room.now in
    record {
      done = c.push_kind.ensures.line ∙ ap (λ (xs : List ℕ). xs ++ here) c.loop-kind.invariant.done ∙ append_assoc start before here
          ∙ ap (λ (xs : List ℕ). start ++ xs) (sym more);
      small = omega (arith, c.loop-kind.invariant.small, c.push_kind.ensures.short);
    }

pub returns : goal.returns
unfolding told_lines
returns c =
    let end : c.loop-kind.kind-index ≡ length kinds = omega (arith, c.loop-kind-test.false, c.loop-kind.auto.kind-index-end) in
    subst (λ (i : ℕ). written_in c.loop-kind.room ≡ written_in c.args.room.now ++ flat_map (told_line c.args.warnings.now) (take i kinds)) end
    c.loop-kind.invariant.done

use Rattle.gj_coords.proofs.Common.{Kind, KindWarnings, W1, ap, arith, index_of, joined_noted, kept, kinds, ◌∙◌}
use Rattle.std.proofs.Common.{◌≡◌, get_or}
use Rattle.gj_coords.specs.Internal.KeptWarnings.{joined, replaced}
use Rattle.gj_coords.specs.Internal.ByKind.{index_at}
use Rattle.gj_coords.proofs.Lists.KindsInTurn.{all_turned, not_turned, one_turned}
use Rattle.gj_coords.proofs.warnings.Warnings.take.Goals as goal

pub loop-kind-preserved : goal.loop-kind-preserved
loop-kind-preserved c =
    let i = c.loop-kind.kind-index in
    let a = c.args.self.now in
    let value : Kind → KindWarnings = λ kind. joined_noted (kept a kind) (kept c.args.other.now kind) in
    let kind = get_or kinds i W1 in
    let at : index_of kind ≡ i = index_at i c.loop-kind-test.true in
    let noted : joined_noted (kept c.loop-kind.self kind) (kept c.args.other.now kind) ≡ value kind =
    ap (λ n. joined_noted n (kept c.args.other.now kind)) (ap (λ w. kept w kind) c.loop-kind.invariant ∙ not_turned i value a kind at) in
    c.take_kind.ensures ∙ (ap (λ w. replaced w kind (joined_noted (kept c.loop-kind.self kind) (kept c.args.other.now kind))) c.loop-kind.invariant
    ∙ one_turned i value a kind (joined_noted (kept c.loop-kind.self kind) (kept c.args.other.now kind)) at noted)

pub returns : goal.returns
unfolding joined
returns c =
    c.loop-kind.invariant
    ∙ all_turned c.loop-kind.kind-index (λ kind. joined_noted (kept c.args.self.now kind) (kept c.args.other.now kind)) c.args.self.now
    (omega (arith, c.loop-kind-test.false))

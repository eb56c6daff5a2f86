use Rattle.gj_coords.proofs.Common.{Kind, KindWarnings, W1, ap, arith, index_of, kept, kinds, shifted_noted, sym, ◌∙◌}
use Rattle.std.proofs.Common.{◌≡◌, ◌==◌, get_or, Option, Some, None, if◌then◌else◌, ℕ}
use Rattle.gj_coords.specs.Internal.KeptWarnings.{shifted, replaced}
use Rattle.gj_coords.specs.Internal.ByKind.{index_at}
use Rattle.gj_coords.proofs.Lists.KindsInTurn.{all_turned, not_turned, one_turned}
use Rattle.gj_coords.proofs.warnings.Warnings.shift.Goals as goal

abbrev first_noted : KindWarnings → Option ℕ
first_noted noted = if noted.count == 0 then None else Some noted.first

pub kept_shifted-noted-requires : goal.kept_shifted-noted-requires
kept_shifted-noted-requires c place h =
    let i = c.loop-kind.kind-index in
    let a = c.args.self.now in
    let value : Kind → KindWarnings = λ kind. shifted_noted c.args.by (kept a kind) in
    let kind = get_or kinds i W1 in
    let at : index_of kind ≡ i = index_at i c.loop-kind-test.true in
    let same : kept c.loop-kind.self kind ≡ kept a kind = ap (λ w. kept w kind) c.loop-kind.invariant ∙ not_turned i value a kind at in
    c.requires kind place (sym (ap first_noted same) ∙ h)

pub loop-kind-preserved : goal.loop-kind-preserved
loop-kind-preserved c =
    let i = c.loop-kind.kind-index in
    let a = c.args.self.now in
    let value : Kind → KindWarnings = λ kind. shifted_noted c.args.by (kept a kind) in
    let kind = get_or kinds i W1 in
    let at : index_of kind ≡ i = index_at i c.loop-kind-test.true in
    let noted : c.kept_shifted-noted.result ≡ value kind =
    c.kept_shifted-noted.ensures ∙ ap (shifted_noted c.args.by) (ap (λ w. kept w kind) c.loop-kind.invariant ∙ not_turned i value a kind at) in
    c.replace.ensures ∙ (ap (λ w. replaced w kind c.kept_shifted-noted.result) c.loop-kind.invariant
    ∙ one_turned i value a kind c.kept_shifted-noted.result at noted)

pub returns : goal.returns
unfolding shifted
returns c =
    c.loop-kind.invariant
    ∙ all_turned c.loop-kind.kind-index (λ kind. shifted_noted c.args.by (kept c.args.self.now kind)) c.args.self.now (omega (arith, c.loop-kind-test.false))

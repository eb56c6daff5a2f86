-- The count is that of what the sink was told.
use Rattle.std.proofs.Common.{◌<◌, ◌^◌, ◌++◌, take, length, sym, subst, ap, ◌∙◌, arith}
use Rattle.gj_json.specs.Limits.{Allowed}
use Rattle.gj_json.specs.Text.{IsTextWithin}
use Rattle.gj_rules.specs.FeatureFindings.{findings_by}
use Rattle.gj_rules.specs.FeatureLinter.{offset_of}
use Rattle.geolint_c.specs.declared.latest.LatestFeatures.{LatestFeatures}
use Rattle.geolint_c.proofs.PulledFeatures.{counted}
use Rattle.geolint_c.proofs.features.tells_more.Goals as goal

pub returns-clause-counted : goal.returns-clause-counted
returns-clause-counted c = λ limits bytes stands under text rest t few.
    let linter = c.args.linter.now in
    let on = subst (λ (l : Allowed). IsTextWithin l.depth text (take (offset_of linter) bytes ++ rest)) (sym under) t in
    let found = findings_by (offset_of linter) text in
    let n = c.few_features.ensures text _ (offset_of linter) t.0 in
    let small : length found < 2 ^ 64 = omega (arith, n, linter.reader.within, linter.short) in
    ap (λ (l : LatestFeatures). l.told) (sym c.sink.ensures.value) ∙ counted c.sink.result.now found small (c.sink.ensures.told bytes rest text stands on few)

-- The feature that is kept is the next that was found.
use Rattle.std.proofs.Common.{◌<◌, ◌++◌, take, sym, subst, arith}
use Rattle.std.proofs.lemmas.Bool.Decides.{nat_tests}
use Rattle.gj_json.specs.Limits.{Allowed}
use Rattle.gj_json.specs.Text.{IsTextWithin}
use Rattle.gj_rules.specs.FeatureFindings.{findings_by}
use Rattle.gj_rules.specs.FeatureLinter.{offset_of, sink_of}
use Rattle.geolint_c.proofs.PulledFeatures.{next_found}
use Rattle.geolint_c.proofs.features.pull.Goals as goal

pub returns : goal.returns
returns c = λ limits bytes j more text rest t few.
    let linter = c.args.linter.now in
    let pulled = c.args.pulled in
    let on = subst (λ (l : Allowed). IsTextWithin l.depth text (take (offset_of linter) bytes ++ rest)) (sym j.under) t in
    let found = findings_by (offset_of linter) text in
    let n = c.tells_more-counted.ensures.counted limits bytes j.stands j.under text rest t few in
    let room = j.room text rest t few in
    let l : pulled < (sink_of linter).told = grind (arith, nat_tests) in
    let few_found = c.few_features.ensures text _ (offset_of linter) t.0 in
    next_found c.sink.result.now found pulled c.get.result.now c.finding_of_feature.result (omega (arith, few_found, linter.reader.within, linter.short))
    (c.sink.ensures.told bytes rest text j.stands on few)
    (omega (arith, l, n)) room.1 c.get.ensures c.finding_of_feature.ensures

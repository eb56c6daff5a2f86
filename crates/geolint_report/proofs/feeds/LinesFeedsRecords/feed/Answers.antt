use Rattle.geolint_report.proofs.Common.{◌∙◌, ◌++◌, ℕ, List, [], refl, subst, Allowed}
use Rattle.gj_rules.specs.RecordFindings.{whole_of}
use Rattle.gj_rules.specs.RecordsStand.{limits_of}
use Rattle.geolint_report.specs.Fed.{AreLines, FitWithin}
use Rattle.geolint_report.proofs.LineVerdicts.{lines-by}
use Rattle.geolint_report.proofs.feeds.LinesFeedsRecords.feed.Goals as goal

pub returns-then-is_decided-clause-stands : goal.returns-then-is_decided-clause-stands
returns-then-is_decided-clause-stands c bytes ((found, stands), kind) =
    let told = c.feed.ensures.told bytes [] found stands tt in
    ((found ++ told.more, told.stands), c.feed.ensures.framing ∙ kind)

pub returns-then-is_decided-clause-decided : goal.returns-then-is_decided-clause-decided
returns-then-is_decided-clause-decided c same bytes ((found, stands), kind) =
    let told = c.feed.ensures.told bytes [] found stands tt in
    let all = found ++ told.more in
    let given = bytes ++ c.args.piece.now in (
      whole_of all,
      λ more. lines-by _ _ _ (given ++ more) _ (c.feed.ensures.framing ∙ kind) refl
          (c.is_decided.ensures.lasting given more all told.stands c.if-is_decided.true),
    )

pub returns-else-is_decided-clause-stands : goal.returns-else-is_decided-clause-stands
returns-else-is_decided-clause-stands c bytes ((found, stands), kind) =
    let told = c.feed.ensures.told bytes [] found stands tt in
    ((found ++ told.more, told.stands), c.feed.ensures.framing ∙ kind)

-- what is not decided fits
fits : (c : goal.Else-is_decided) (bytes : List ℕ) → AreLines c.args.fed.now bytes → FitWithin (limits_of c.args.fed.now) (bytes ++ c.args.piece.now)
fits c bytes ((found, stands), kind) =
    let told = c.feed.ensures.told bytes [] found stands tt in
    let given = bytes ++ c.args.piece.now in
    subst (λ (limits : Allowed). FitWithin limits given) c.feed.ensures.limits
    (c.is_decided.ensures.within given (found ++ told.more) told.stands c.if-is_decided.false)

pub returns-else-is_decided-clause-open : goal.returns-else-is_decided-clause-open
returns-else-is_decided-clause-open c same = fits c

pub returns-else-is_decided-clause-fits : goal.returns-else-is_decided-clause-fits
returns-else-is_decided-clause-fits c same = fits c

-- The bytes go to the open record.
use Rattle.gj_rules.proofs.Common.{refl, ◌++◌}
use Rattle.gj_rules.proofs.Parts.RecordSteps.{open_of, stand_open, run_open}
use Rattle.gj_rules.proofs.records.Records.take_run.Goals as goal

pub returns-clause-stands : goal.returns-clause-stands
returns-clause-stands c = λ bytes found s.
    let self = c.args.self.now in
    let h = open_of self bytes found c.requires.live s in
    stand_open _ (bytes ++ c.args.run.now) found c.requires.live
    (run_open self _ bytes c.args.run.now found h refl refl refl refl c.requires.plain c.requires.room
    (c.feed.ensures.stands h.given h.stands) c.feed.ensures.start c.feed.ensures.end c.feed.ensures.limits c.stays_void-self.ensures)

pub returns-clause-keeps : goal.returns-clause-keeps
returns-clause-keeps c = record { limits = refl; framing = refl }

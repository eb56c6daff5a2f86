use Rattle.gj_split.proofs.HeldRecords.{held_valid, held_broken}
use Rattle.gj_split.proofs.splitter.Splitter.put.Goals as goal

pub returns-in_ok-write_record-in-None-clause-held : goal.returns-in_ok-write_record-in-None-clause-held
returns-in_ok-write_record-in-None-clause-held g c = λ features e h.
    held_valid g.R.Ranges.text c.args.self.now.stop (g.V.Write.contents c.args.self.now.outputs.valid) (g.V.Write.contents c.write_record.new.out)
    (g.B.Write.contents c.args.self.now.outputs.broken)
    c.args.self.now.counts c.saturating_add-self.result features c.args.feature.now e c.in-None.is c.in_ok-write_record-in-None.ensures
    c.saturating_add-self.ensures h

pub returns-in-Ok-clause-held : goal.returns-in-Ok-clause-held
returns-in-Ok-clause-held g c = λ features e h.
    held_broken g.R.Ranges.text c.args.self.now.stop (g.V.Write.contents c.args.self.now.outputs.valid) (g.B.Write.contents c.args.self.now.outputs.broken)
    (g.B.Write.contents c.write_record-in-Some.new.out)
    c.args.self.now.counts c.saturating_add-self-in-Some.result features c.args.feature.now _ e c.in-Some.is c.in_ok-write_record-in-Some.ensures
    c.saturating_add-self-in-Some.ensures h

use Rattle.gj_split.proofs.HeldOfRecords.{found_valid, found_broken}
use Rattle.gj_split.proofs.splitter.Splitter.put_record.Goals as goal

pub returns-in_ok-write_found-in-Valid-clause-held : goal.returns-in_ok-write_found-in-Valid-clause-held
returns-in_ok-write_found-in-Valid-clause-held g c = λ records e h.
    found_valid g.R.Ranges.text c.args.self.now.stop (g.V.Write.contents c.args.self.now.outputs.valid) (g.V.Write.contents c.write_found.new.out)
    (g.B.Write.contents c.args.self.now.outputs.broken)
    c.args.self.now.counts c.saturating_add-self.result records c.args.found.now c.in-Valid.field-0 e c.in-Valid.is c.in_ok-write_found-in-Valid.ensures
    c.saturating_add-self.ensures h

pub returns-in-Ok-clause-held : goal.returns-in-Ok-clause-held
returns-in-Ok-clause-held g c = λ records e h.
    found_broken g.R.Ranges.text c.args.self.now.stop (g.V.Write.contents c.args.self.now.outputs.valid) (g.B.Write.contents c.args.self.now.outputs.broken)
    (g.B.Write.contents c.write_found-in_default.new.out)
    c.args.self.now.counts c.saturating_add-self-in_default.result records c.args.found.now e c.in_default.not-Valid c.in_ok-write_found-in_default.ensures
    c.saturating_add-self-in_default.ensures h

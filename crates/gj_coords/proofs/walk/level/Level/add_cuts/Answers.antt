-- The positions that were added are counted.
use Rattle.gj_coords.proofs.Common.{ap, arrays_counted, sym, ◌∙◌}
use Rattle.std.proofs.Common.{length}
use Rattle.gj_coords.proofs.Walks.CutPositions.{as_many, level_added}
use Rattle.gj_coords.proofs.walk.level.Level.add_cuts.Goals as goal

pub returns-clause-added : goal.returns-clause-added
returns-clause-added c = λ flats are counted.
    let h = c.args.self.now in
    let ps = c.add_cuts-count.new.self in
    let many = as_many c.args.positions.now c.add_cuts-count.result flats c.add_cuts-count.ensures.few are in
    ap (λ n. record h { numbers = n; positions = ps }) (c.count_arrays.ensures counted ∙ ap (λ k. arrays_counted k h.numbers) (sym many))
    ∙ ap (λ x. record h { numbers = arrays_counted (length flats) h.numbers; positions = x }) (c.add_cuts-count.ensures.added flats are)
    ∙ sym (level_added flats h)

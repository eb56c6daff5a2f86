-- The positions that were read are counted.
use Rattle.gj_coords.proofs.Common.{ap, arrays_counted, sym, ◌∙◌}
use Rattle.std.proofs.Common.{length}
use Rattle.gj_coords.proofs.Walks.CutPositions.{as_many, outermost_added}
use Rattle.gj_coords.proofs.walk.outermost.Outermost.add_cuts.Goals as goal

pub returns-clause-added : goal.returns-clause-added
returns-clause-added c = λ flats are counted.
    let g = c.args.self.now in
    let warned = c.warn_all-count.new.warned in
    let many = as_many c.args.positions.now c.warn_all-count.result flats c.warn_all-count.ensures.few are in
    ap (λ n. record g { numbers = n; positions_warned = warned }) (c.count_arrays.ensures counted ∙ ap (λ k. arrays_counted k g.numbers) (sym many))
    ∙ ap (λ w. record g { numbers = arrays_counted (length flats) g.numbers; positions_warned = w }) (c.warn_all-count.ensures.noted flats are)
    ∙ sym (outermost_added flats g)

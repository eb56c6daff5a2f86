use Rattle.std.proofs.Common.{arith, refl}
use Rattle.gj_places.specs.declared.lines.TheConstants.{LINE_FEED}
use Rattle.gj_places.proofs.CountedPieces.{line_of-end, column_of-end}
use Rattle.gj_places.proofs.lines.Lines.end_lines.Goals as goal

pub returns : goal.returns
returns c = λ bytes stands.
    let line = line_of-end bytes c.args.lines.now LINE_FEED refl in
    let column = column_of-end bytes c.args.lines.now LINE_FEED refl in
    record {
      line = omega (arith, stands.line, line, c.line_feeds.ensures, c.saturating_add.ensures, c.saturating_add-self.ensures);
      column = omega (arith, column);
    }

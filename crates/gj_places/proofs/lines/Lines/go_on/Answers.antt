use Rattle.std.proofs.Common.{arith}
use Rattle.gj_places.proofs.CountedPieces.{line_of-on, column_of-on}
use Rattle.gj_places.proofs.lines.Lines.go_on.Goals as goal

pub returns : goal.returns
returns c = λ bytes stands.
    let line = line_of-on bytes c.args.rest.now c.requires in
    let column = column_of-on bytes c.args.rest.now c.requires in
    record {
      line = omega (arith, stands.line, line);
      column = omega (arith, stands.column, column, c.characters.ensures, c.saturating_add-self.ensures);
    }

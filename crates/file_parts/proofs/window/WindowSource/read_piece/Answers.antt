use Rattle.std.proofs.Common.{◌≤◌, length}
use Rattle.file_parts.proofs.WindowReads.{window_read}
use Rattle.file_parts.proofs.window.WindowSource.read_piece.Goals as goal

pub returns-in-Ok-clause-bytes : goal.returns-in-Ok-clause-bytes
returns-in-Ok-clause-bytes g c =
    let bound : c.in-Ok.count ≤ length c.read_from.new.piece = c.in-Ok.ensures.bound.0 in
    window_read (g.S.Source.text c.args.self.now.source) (g.S.Source.text c.read_from.new.self) c.args.self.now.place c.args.self.now.end c.in-Ok.count
    c.lesser-taken.result c.read_from.new.piece c.read_from.ensures.text c.in-Ok.ensures.bytes bound c.args.self.now.ordered c.lesser-taken.ensures

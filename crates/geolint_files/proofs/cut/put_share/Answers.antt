use Rattle.geolint_files.proofs.Common.{Appends, subst, ◌∙◌}
use Rattle.std.proofs.KnownBytes.{Appends-kept}
use Rattle.geolint_files.proofs.cut.put_share.Goals as goal

pub returns : goal.returns
returns g c =
    let contents = g.W.Write.contents in
    subst (Appends (contents c.args.out.now) (contents c.flush.new.self)) (c.as_slice.ensures.value ∙ c.in_ok-bytes.ensures)
    (Appends-kept (contents c.args.out.now) (contents c.write_all.new.self) (contents c.flush.new.self) c.as_slice.result.now
    c.in_ok-write_all.ensures.bytes c.flush.ensures.bytes)

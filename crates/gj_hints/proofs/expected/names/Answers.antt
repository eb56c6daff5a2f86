use Rattle.std.proofs.Common.{◌≡◌, get_or, true, false}
use Rattle.gj_hints.proofs.expected.names.Goals as goal

pub returns-then-named-i : goal.returns-then-named-i
returns-then-named-i c =
    let is_named : get_or c.args.named.now c.args.i false ≡ true = c.if-named-i.true in
    rw is_named c.has.ensures

use Rattle.std.proofs.Common.{◌≡◌, sym, ◌∙◌}
use Rattle.gj_hints.specs.Expected.{is_named}
use Rattle.gj_hints.proofs.NamedBytes.{same-answer}
use Rattle.gj_hints.proofs.expected.tells.Goals as goal

pub returns-else-is_white : goal.returns-else-is_white
returns-else-is_white c = λ same bytes after not_white.
    let e : is_named c.args.named.now c.args.byte ≡ c.can_follow.result =
    sym c.is_named.ensures ∙ same-answer c.is_named.result c.can_follow.result same in
    rw e (c.can_follow.ensures bytes after)

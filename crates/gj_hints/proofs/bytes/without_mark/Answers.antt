use Rattle.std.proofs.Common.{rules}
use Rattle.std.proofs.lemmas.List.{take_rest}
use Rattle.gj_hints.proofs.bytes.without_mark.Goals as goal

pub returns-then-begins : goal.returns-then-begins
returns-then-begins c = search (rules, take_rest c.args.head.now 3)

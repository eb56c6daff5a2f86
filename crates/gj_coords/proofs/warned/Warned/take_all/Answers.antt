use Rattle.gj_coords.proofs.Common.{Warned, Warnings, ap, joined_none_first, sym, warnings_in, ◌∙◌}
use Rattle.std.proofs.Common.{Some}
use Rattle.gj_coords.specs.Internal.KeptWarnings.{joined}
use Rattle.gj_coords.proofs.warned.Warned.take_all.Goals as goal

pub returns-in-None : goal.returns-in-None
returns-in-None c =
    let others = c.args.other.now in
    let holds : Warnings → Warned = λ all. record { warnings = Some all } in
    sym (ap (λ x. holds (joined (warnings_in x) others)) c.in-None.is ∙ ap holds (joined_none_first others))

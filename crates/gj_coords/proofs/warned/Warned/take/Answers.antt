use Rattle.gj_coords.proofs.Common.{all_in, ap, sym, warnings_in, ◌∙◌}
use Rattle.gj_coords.specs.Internal.KeptWarnings.{joined}
use Rattle.gj_coords.specs.Internal.WarningLaws.{joined_none_last}
use Rattle.gj_coords.proofs.warned.Warned.take.Goals as goal

pub returns-in-None-clause-joined : goal.returns-in-None-clause-joined
returns-in-None-clause-joined c =
    let w = all_in c.args.self.now in
    sym (ap (λ x. joined w (warnings_in x)) c.in-None.is ∙ joined_none_last w)

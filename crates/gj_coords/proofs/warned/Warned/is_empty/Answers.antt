use Rattle.gj_coords.proofs.Common.{ap, sym, warnings_in}
use Rattle.gj_coords.specs.Internal.KeptWarnings.{no_warnings, none_in}
use Rattle.gj_coords.proofs.warned.Warned.is_empty.Goals as goal

pub returns-in-None : goal.returns-in-None
unfolding no_warnings
returns-in-None c = ap (λ x. none_in (warnings_in x)) (sym c.in-None.is)

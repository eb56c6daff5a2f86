-- A plain position adds no warning.
use Rattle.gj_rules.proofs.Common.{Core, Frame, Geometry, IsTrue, Warnings, ap, sym, top_of, ◌∙◌}
use Rattle.gj_coords.specs.Internal.KeptWarnings.{no_warnings}
use Rattle.gj_rules.specs.Internal.FrameCalls.{named}
use Rattle.gj_rules.proofs.Objects.WarningsInTurn.{with_none}
use Rattle.gj_rules.proofs.rules.FramedRules.take_point.Goals as goal

pub returns-else-not-is_plain_point-clause-frame : goal.returns-else-not-is_plain_point-clause-frame
returns-else-not-is_plain_point-clause-frame g c =
    let f : Frame = named Geometry c.args.place (top_of c.args.self.now) in
    let is : IsTrue c.is_plain_point.result = cc in record {
      warnings = no_warnings;
      deserved = c.is_plain_point.ensures.plain is;
      after_is =
          ap (λ (s : Core). s.top) c.name_geometry.ensures
          ∙ sym (ap (λ (w : Warnings). record f { gathered = record f.gathered { geometry = w } }) (with_none f.gathered.geometry));
    }

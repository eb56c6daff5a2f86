-- What a whole Point as the value of `geometry` shows of the object around.
use Rattle.std.specs.Prelude.{◌≡◌}
use Rattle.gj_json.specs.declared.flat.Flat.{Flat}
use Rattle.gj_json.specs.declared.names.Known.TheVariants.{Geometry}
use Rattle.gj_coords.specs.declared.warnings.Warnings.{Warnings}
use Rattle.gj_coords.specs.PlainPoint.{IsPointWith}
use Rattle.gj_rules.specs.Internal.FrameCalls.{warned}
use Rattle.gj_rules.specs.Internal.FrameMeaning.{Frame}

-- A Point with this position is the value of its member `geometry`: it deserves some warnings, and they are all that is added.
pub record IsPointTaken (flat : Flat) (before after : Frame) : Type 0 where
  pub warnings : Warnings
  pub deserved : IsPointWith warnings flat
  pub after_is : after ≡ warned Geometry warnings before

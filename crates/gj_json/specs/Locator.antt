-- What a locator stands for.
use Rattle.std.specs.Prelude.{◌≡◌, ℕ, List, [], ◌++◌, length, take, Option}
use Rattle.gj_json.specs.declared.fault.JsonFault.{JsonFault}
use Rattle.gj_json.specs.declared.locator.Locator.{Locator}
use Rattle.gj_json.specs.declared.event.Event.{Event}
use Rattle.gj_json.specs.declared.path.Path.{Path}
use Rattle.gj_json.specs.Limits.{Allowed, IsAllowed}
use Rattle.gj_json.specs.Tree.{Text}
use Rattle.gj_json.specs.Text.{IsText}
use Rattle.gj_json.specs.Events.{events_by}
use Rattle.gj_json.specs.Reader as Reader
use Rattle.gj_json.specs.Internal.PathTrail.{inner_steps, Follows}

-- what it reads under
abbrev pub limits_of : Locator → Allowed
limits_of locator = Reader.limits_of locator.reader

-- the refusal, once there was one
abbrev pub refusal_of : Locator → Option JsonFault
refusal_of locator = Reader.refusal_of locator.reader

-- how many bytes it took
abbrev pub offset_of : Locator → ℕ
offset_of locator = Reader.offset_of locator.reader

-- the steps follow the events that are complete in these bytes, of each text that begins with them
pub record Trails (trail : Path) (taken : List ℕ) : Type 0 where
  pub events : List Event
  pub follows : Follows (inner_steps trail) events []
  pub complete : (text : Text) (rest : List ℕ) → IsText text (taken ++ rest) → events_by (length taken) text ≡ events

-- The locator may have been given these bytes, refused ones among them. What it says is internal: a caller needs that
-- `new` stands for no bytes, and that each call keeps it.
pub record StandsFor (locator : Locator) (bytes : List ℕ) : Type 0 where
  pub allowed : IsAllowed locator.reader.limits.depth locator.reader.limits.bytes
  pub stands : Reader.StandsFor locator.reader bytes
  pub trails : Trails locator.trail (take (offset_of locator) bytes)

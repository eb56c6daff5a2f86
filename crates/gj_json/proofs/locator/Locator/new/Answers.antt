-- Before the first byte the path is that to the root.
use Rattle.gj_json.proofs.Paths.LocatorSteps.{first_trails}
use Rattle.gj_json.proofs.locator.Locator.new.Goals as goal

pub returns-clause-stands : goal.returns-clause-stands
returns-clause-stands c = record {
  allowed = rw (c.new-2.ensures.limits) c.depth-most.ensures.allowed;
  stands = c.new-2.ensures.stands;
  trails = first_trails c.new.result c.new-2.result.offset c.new-2.ensures.offset c.new.ensures c.new-2.ensures.events;
}

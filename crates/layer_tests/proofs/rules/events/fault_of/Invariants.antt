use Rattle.std.proofs.Common.{take}
use Rattle.gj_rules.specs.Rules.{StandsFor}
use Rattle.layer_tests.proofs.rules.events.fault_of.Given as goal

abbrev pub invariant-loop-event : goal.invariant-loop-event
invariant-loop-event l = StandsFor l.rules (take l.event-index l.events)

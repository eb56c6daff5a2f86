use Rattle.gj_coords.specs.declared.walk.Depth.TheVariants.{Fourth}
use Rattle.gj_coords.proofs.Walks.SteadySteps.{innermost_at, stays_first, stays_second, stays_third}
use Rattle.gj_coords.proofs.walk.Walk.add_steady.Goals as goal

pub returns-in-First : goal.returns-in-First
returns-in-First c = λ floor. stays_first floor c.args.flat.now c.args.self.now _ c.in-First.is c.add_steady-in-First.ensures

pub returns-in-Second : goal.returns-in-Second
returns-in-Second c = λ floor. stays_second floor c.args.flat.now c.args.self.now _ c.in-Second.is c.add_steady.ensures

pub returns-in-Third : goal.returns-in-Third
returns-in-Third c = λ floor. stays_third floor c.args.flat.now c.args.self.now _ c.in-Third.is c.add_steady-in-Third.ensures

pub returns-in-Fourth : goal.returns-in-Fourth
returns-in-Fourth c = λ floor k past. absurd (innermost_at Fourth floor c.args.self.now c.in-Fourth.is k)

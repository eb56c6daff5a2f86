use Rattle.gj_coords.proofs.Common.{First, Level, Outermost, Second, StayAll, Third, subst, sym}
use Rattle.gj_coords.proofs.Walks.SteadySteps.{innermost_at, stay_first, stay_second, stay_third}
use Rattle.gj_coords.proofs.walk.Walk.add_cuts.Goals as goal

pub returns-in-First-clause-steady : goal.returns-in-First-clause-steady
returns-in-First-clause-steady c = λ floor flats are past k.
    let s = c.args.self.now in
    let P : Outermost → Type 0 = λ g. StayAll floor flats s (record s { outer = g }) in
    let counted = (innermost_at First floor s c.in-First.is k).settled.counted in
    subst P (sym (c.add_cuts-in-First.ensures.added flats are counted)) (stay_first floor flats s c.in-First.is k past)

pub returns-in-Second-clause-steady : goal.returns-in-Second-clause-steady
returns-in-Second-clause-steady c = λ floor flats are past k.
    let s = c.args.self.now in
    let P : Level → Type 0 = λ h. StayAll floor flats s (record s { middle = h }) in
    let counted = (innermost_at Second floor s c.in-Second.is k).settled.counted in
    subst P (sym (c.add_cuts.ensures.added flats are counted)) (stay_second floor flats s c.in-Second.is k past)

pub returns-in-Third-clause-steady : goal.returns-in-Third-clause-steady
returns-in-Third-clause-steady c = λ floor flats are past k.
    let s = c.args.self.now in
    let P : Level → Type 0 = λ h. StayAll floor flats s (record s { inner = h }) in
    let counted = (innermost_at Third floor s c.in-Third.is k).counted in
    subst P (sym (c.add_cuts-in-Third.ensures.added flats are counted)) (stay_third floor flats s c.in-Third.is k past)

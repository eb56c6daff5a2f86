use Rattle.gj_coords.proofs.Common.{sym}
use Rattle.std.proofs.lemmas.Option.{IfSome_then}
use Rattle.gj_coords.proofs.Walks.FlatLaws.{flat_in_first, flat_in_second, flat_in_third, flat_in_fourth}
use Rattle.gj_coords.proofs.Walks.SteadyLaws.{steady_first, steady_second, steady_third}
use Rattle.gj_coords.specs.Internal.LevelGather.{line_of}
use Rattle.gj_coords.proofs.walk.Walk.add_flat.Goals as goal

pub returns-in-First-clause-taken : goal.returns-in-First-clause-taken
returns-in-First-clause-taken c =
    let s = c.args.self.now in
    rw (c.requires, c.in-First.is, c.add_flat.ensures) (sym (flat_in_first c.args.flat.now s.outer))

pub returns-in-First-clause-steady : goal.returns-in-First-clause-steady
returns-in-First-clause-steady c =
    let s = c.args.self.now in
    IfSome_then c.steady_after.result c.steady_after.ensures (λ floor h. record {
      is_open = c.requires;
      innermost = rw (c.in-First.is, h.1, c.add_flat.ensures) (steady_first c.args.flat.now s.outer (rw c.add_flat.ensures at h.0));
    })

pub returns-in-Second-clause-taken : goal.returns-in-Second-clause-taken
returns-in-Second-clause-taken c =
    let s = c.args.self.now in
    rw (c.requires, c.in-Second.is, c.add_flat-in-Second.ensures) (sym (flat_in_second c.args.flat.now s.outer s.middle))

pub returns-in-Second-clause-steady : goal.returns-in-Second-clause-steady
returns-in-Second-clause-steady c =
    let s = c.args.self.now in
    IfSome_then c.steady_after-in-Second.result c.steady_after-in-Second.ensures (λ floor h. record {
      is_open = c.requires;
      innermost = rw (c.in-Second.is, h.1, c.add_flat-in-Second.ensures) (steady_second c.args.flat.now s.middle (rw c.add_flat-in-Second.ensures at h.0));
    })

pub returns-in-Third-clause-taken : goal.returns-in-Third-clause-taken
returns-in-Third-clause-taken c =
    let s = c.args.self.now in
    rw (c.requires, c.in-Third.is, c.add_flat-in-Third.ensures) (sym (flat_in_third c.args.flat.now s.outer s.middle (line_of s.inner)))

pub returns-in-Third-clause-steady : goal.returns-in-Third-clause-steady
returns-in-Third-clause-steady c =
    let s = c.args.self.now in
    IfSome_then c.steady_after-in-Third.result c.steady_after-in-Third.ensures (λ floor h. record {
      is_open = c.requires;
      innermost = rw (c.in-Third.is, h.1, c.add_flat-in-Third.ensures) (steady_third c.args.flat.now s.inner (rw c.add_flat-in-Third.ensures at h.0));
    })

pub returns-in-Fourth-clause-taken : goal.returns-in-Fourth-clause-taken
returns-in-Fourth-clause-taken c =
    let s = c.args.self.now in
    rw (c.requires, c.in-Fourth.is, c.add_array.ensures) (sym (flat_in_fourth c.args.flat.now s.outer s.middle (line_of s.inner) s.numbers))

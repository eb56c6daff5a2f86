use Rattle.gj_coords.proofs.Common.{ap, sym, ◌∙◌}
use Rattle.std.proofs.Common.{is_none}
use Rattle.gj_coords.proofs.Walks.PreciseNumbers.{counted_more}
use Rattle.std.proofs.lemmas.Bool.Decides.{Decides-and, Decides-int_eq}
use Rattle.gj_coords.proofs.cuts.AddedCuts.adds.Goals as goal

pub returns-clause-added : goal.returns-clause-added
returns-clause-added c = λ done flat is.
    let at = sym (c.corner.ensures flat is) ∙ c.in-Some.is in
    let corner = c.in-Some.corner in
    let start = c.args.start.now in
    let d = Decides-and _ _ (Decides-int_eq corner.x start.x) (Decides-int_eq corner.y start.y) in
    record {
      corner = c.in-Some.corner;
      in_range = at;
      apart = λ e. (let same = d.1 (ap (λ c. c.x) (sym e), ap (λ c. c.y) (sym e)) in let other = c.if-eq.ensures in cc);
      sum = c.add.ensures;
      counted = counted_more c.args.position.now flat c.args.self.now.precise c.with-self.result is (ap is_none at) c.with-self.ensures.noted;
    }

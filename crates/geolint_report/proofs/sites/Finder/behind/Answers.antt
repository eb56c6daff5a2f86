use Rattle.geolint_report.proofs.Common.{arith, ◌≡◌, ◌∙◌, ℕ, List, ap, sym, subst, append-nil}
use Rattle.geolint_report.specs.declared.every.text_path.TextPath.{TextPath}
use Rattle.geolint_report.specs.Internal.TextPaths.{StandsIn}
use Rattle.geolint_report.specs.Sites.{ArePaths}
use Rattle.geolint_report.proofs.HeldSites.{none-before}
use Rattle.geolint_report.proofs.sites.Finder.behind.Goals as goal
use Rattle.geolint_report.proofs.sites.Finder.behind.Goals.{then-kept-eq0, else-kept-eq0}

pub returns-clause-follows : goal.returns-clause-follows
returns-clause-follows c = λ sites before passed paths.
    let path = c.if-kept-eq0.text_path in
    let framing : path.framing ≡ c.args.framing = elim c.if-kept-eq0.branch [
      | then-kept-eq0 w ↦ (ap (λ (p : TextPath). p.framing) w.text_path-is ∙ w.new-text_path.ensures.framing)
      | else-kept-eq0 w ↦ (ap (λ (p : TextPath). p.framing) w.text_path-is ∙ w.lost-text_path.ensures.framing)
    ] in
    let stands : StandsIn path before = elim c.if-kept-eq0.branch [
      | then-kept-eq0 w ↦ subst (λ (p : TextPath). StandsIn p before) (sym w.text_path-is)
          (subst (StandsIn w.new-text_path.result) (sym (none-before before (sym passed ∙ w.if-kept-eq0.true))) w.new-text_path.ensures.stands)
      | else-kept-eq0 w ↦ subst (λ (p : TextPath). StandsIn p before) (sym w.text_path-is) (w.lost-text_path.ensures.stands before)
    ] in
    record {
      kind = framing;
      located = omega arith;
      near = omega arith;
      stands = λ fewer. subst (StandsIn path) (sym (append-nil before)) stands;
      paths = subst (λ (bytes : List ℕ). ArePaths c.args.framing bytes sites.sites) (sym (append-nil before)) paths;
    }

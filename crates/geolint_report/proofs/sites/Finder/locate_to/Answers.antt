use Rattle.std.proofs.Common.{◌++◌, ℕ, List, take, ap, subst, ◌∙◌, append_assoc}
use Rattle.geolint_report.specs.Internal.TextPaths.{StandsIn, KeepsIn}
use Rattle.geolint_report.proofs.FoundSites.{take-joined}
use Rattle.geolint_report.proofs.sites.Finder.locate_to.Goals as goal

pub returns-then-end-piece-clause-stands : goal.returns-then-end-piece-clause-stands
returns-then-end-piece-clause-stands c = λ text ordered within stands.
    let piece = c.args.piece.now in
    let located = c.args.self.now.located in
    let joined = append_assoc text (take located piece) _ ∙ ap (λ (ys : List ℕ). text ++ ys) (take-joined located c.args.end piece ordered) in
    subst (StandsIn c.feed.new.self) joined (c.feed.ensures.stands (text ++ take located piece) stands)

pub returns-then-end-piece-clause-keeps : goal.returns-then-end-piece-clause-keeps
returns-then-end-piece-clause-keeps c = λ text ordered within stands keeps.
    let piece = c.args.piece.now in
    let located = c.args.self.now.located in
    let joined = append_assoc text (take located piece) _ ∙ ap (λ (ys : List ℕ). text ++ ys) (take-joined located c.args.end piece ordered) in
    subst (KeepsIn c.feed.new.self) joined (c.feed.ensures.keeps (text ++ take located piece) stands keeps)

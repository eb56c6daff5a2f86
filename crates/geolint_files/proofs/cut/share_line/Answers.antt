use Rattle.geolint_files.proofs.Common.{length, sym, subst, Option, ◌≡◌}
use Rattle.std.specs.Prelude.{IfSome}
use Rattle.std.proofs.lemmas.Result.{IfOk-weaker}
use Rattle.gj_rules.specs.declared.records.framing.Framing.{Framing}
use Rattle.geolint_files.specs.AskedLine.{IsReadLineBy}
use Rattle.geolint_files.proofs.LinesRead.{of-length}
use Rattle.geolint_files.proofs.cut.share_line.Goals as goal

pub returns-in-Some-clause-read : goal.returns-in-Some-clause-read
returns-in-Some-clause-read g c =
    IfOk-weaker c.line_of.result _ _ (λ line is.
    subst (λ (f : Option Framing). IfSome (g.S.Source.text c.args.source) (λ text. length text ≡ c.args.file.size
    → IsReadLineBy f c.args.options.now c.args.share text line)) (sym c.in-Some.is) is) c.line_of.ensures.read

pub returns-in-None-clause-read : goal.returns-in-None-clause-read
returns-in-None-clause-read g c =
    IfOk-weaker c.line_of_features.result _ _ (λ line is.
    subst (λ (f : Option Framing). IfSome (g.S.Source.text c.args.source) (λ text. length text ≡ c.args.file.size
    → IsReadLineBy f c.args.options.now c.args.share text line)) (sym c.in-None.is)
    (of-length (g.S.Source.text c.args.source) c.args.file.size _ is)) c.line_of_features.ensures.read

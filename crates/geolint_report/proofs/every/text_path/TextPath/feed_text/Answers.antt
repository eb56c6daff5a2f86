use Rattle.geolint_report.proofs.Common.{◌≡◌, ◌++◌, false, subst, Allowed}
use Rattle.std.specs.Prelude.{is_err}
use Rattle.gj_json.specs.Reader.{Answers}
use Rattle.geolint_report.proofs.ToldPaths.{CanGoOn-front, never-err}
use Rattle.geolint_report.proofs.every.text_path.TextPath.feed_text.Goals as goal

pub returns-then-is_err-clause-keeps : goal.returns-then-is_err-clause-keeps
returns-then-is_err-clause-keeps c = λ limits text stands keeps goes.
    let bytes = c.args.bytes.now in
    let (live, under) = keeps (CanGoOn-front limits text bytes goes) in
    let (locates, none) = stands live in
    let answer = subst (λ (l : Allowed). Answers l (text ++ bytes) c.feed.result) under (c.feed.ensures.answer text locates) in
    let taken : is_err c.feed.result ≡ false = never-err _ limits (text ++ bytes) c.feed.result answer goes in
    absurd (cc)

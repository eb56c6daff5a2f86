use Rattle.geolint_report.specs.Sites.{text_of}
use Rattle.geolint_report.proofs.every.text_path.TextPath.path.Goals as goal

pub returns-else-self-clause-is : goal.returns-else-self-clause-is
returns-else-self-clause-is c = λ front stands.
    let (follows, none) = stands c.if-self.false in
    λ rest text is. c.path.ensures.taken (text_of c.args.self.now.framing front) rest text follows none is

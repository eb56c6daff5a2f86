use Rattle.file_parts.proofs.Common.{List, ℕ, Option, bytes_between, subst}
use Rattle.std.specs.Option.{option_map}
use Rattle.geolint_report.specs.Judged.{Finds}
use Rattle.geolint_report.specs.declared.judge.Finding.{Finding}
use Rattle.file_parts.specs.Checked.{reading_of}
use Rattle.file_parts.proofs.PartBounds.{found_verdict}
use Rattle.file_parts.proofs.checked.check_window.Goals as goal

pub returns-in-Sequence-clause-verdict : goal.returns-in-Sequence-clause-verdict
returns-in-Sequence-clause-verdict g c =
    let window = c.args.window.now in
    let read = c.find.new.reader in
    let known : Option (List ℕ) = option_map (bytes_between window.place window.end) (g.S.Source.text window.source) in
    let now : Option (List ℕ) = option_map (bytes_between read.place read.end) (g.S.Source.text read.source) in
    found_verdict known now c.args.framing c.args.limits c.in-Sequence.verdict
    (subst (λ (it : Finding). Finds (reading_of c.args.framing) c.args.limits known now it) c.in-Sequence.is c.in_ok-found.ensures.found)

use Rattle.geolint_files.proofs.Common.{ap, refl}
use Rattle.part_lines.specs.declared.line.Settings.{Settings}
use Rattle.geolint_files.proofs.LinesRead.{line-read}
use Rattle.geolint_files.proofs.cut.line_of.Goals as goal

pub returns-clause-asked : goal.returns-clause-asked
returns-clause-asked g c = record { of_file = refl; share = refl; limits = ap (λ (s : Settings). s.limits) c.settings_of.ensures; strictness = ap (λ (s : Settings). s.strictness) c.settings_of.ensures }

pub returns-clause-read : goal.returns-clause-read
returns-clause-read g c =
    let found = c.in_ok-found.found in
    line-read (g.S.Source.text c.args.source) c.args.framing c.args.options.now c.asked_in-asked.result c.args.share found.part found.notes _
    c.asked_in-asked.ensures refl c.listed_of.ensures (ap (λ (s : Settings). s.framing) c.settings_of.ensures) (rw c.in_ok-found.was at c.check_part-found.ensures.bytes)
    (rw c.in_ok-found.was at c.check_part-found.ensures.part) (rw c.in_ok-found.was at c.check_part-found.ensures.notes)

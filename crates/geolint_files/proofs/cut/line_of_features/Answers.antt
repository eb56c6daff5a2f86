use Rattle.geolint_files.proofs.Common.{ap, refl, None}
use Rattle.part_lines.specs.declared.line.Settings.{Settings}
use Rattle.geolint_files.proofs.LinesRead.{one-text-read}
use Rattle.geolint_files.proofs.cut.line_of_features.Goals as goal

pub returns-clause-asked : goal.returns-clause-asked
returns-clause-asked g c = record {
  of_file = refl;
  share = refl;
  limits = ap (λ (s : Settings). s.limits) c.settings_of.ensures;
  strictness = ap (λ (s : Settings). s.strictness) c.settings_of.ensures;
}

pub returns-clause-read : goal.returns-clause-read
returns-clause-read g c =
    one-text-read (g.S.Source.text c.args.source) c.args.chosen.now c.args.share
    (record { file = c.args.file; settings = c.settings_of.result; share = c.args.share; checked = c.in_ok-checked.checked; listed = None }) (ap (λ (s : Settings). s.framing) c.settings_of.ensures) refl
    c.in_ok-checked.ensures.part c.in_ok-checked.ensures.run

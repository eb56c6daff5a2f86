use Rattle.std.proofs.Common.{◌∙◌, [], ◌∷◌}
use Rattle.std.proofs.Math.ListN.{get_or-map}
use Rattle.gj_coords.specs.Texts.{rule_texts}
use Rattle.geolint_c.specs.Texts.{with_zero}
use Rattle.geolint_c.proofs.texts.geolint_rule_text.Goals as goal

pub returns : goal.returns
returns c = c.text_at.ensures ∙ get_or-map with_zero ([] ∷ rule_texts) c.args.rule []

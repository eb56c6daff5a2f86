use Rattle.gj_coords.proofs.Common.{ap, joined_noted, kept, sym, ◌∙◌}
use Rattle.std.proofs.Common.{◌≡◌, true}
use Rattle.gj_coords.specs.Internal.KeptWarnings.{replaced, is_nothing}
use Rattle.gj_coords.specs.Internal.KeptWarningLaws.{joined_noted_none, nothing_at_zero}
use Rattle.gj_coords.specs.Internal.WarningLaws.{replaced_by_itself}
use Rattle.gj_coords.proofs.warnings.Warnings.take_kind.Goals as goal

pub returns-else-not-is_nothing : goal.returns-else-not-is_nothing
returns-else-not-is_nothing c =
    let own = kept c.args.self.now c.args.kind in
    let more = kept c.args.other.now c.args.kind in
    let none : is_nothing more ≡ true = cc in
    let same : joined_noted own more ≡ own = ap (joined_noted own) (sym (nothing_at_zero more none)) ∙ joined_noted_none own in
    sym (ap (replaced c.args.self.now c.args.kind) same ∙ replaced_by_itself c.args.self.now c.args.kind)

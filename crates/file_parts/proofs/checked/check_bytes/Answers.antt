use Rattle.file_parts.proofs.Common.{List, ℕ, Allowed, limits_after, bytes_between}
use Rattle.std.proofs.lemmas.Result.{IfOk-weaker}
use Rattle.gj_join.specs.Joined.{IsVerdictOf}
use Rattle.file_parts.specs.Checked.{AreNotesIf}
use Rattle.file_parts.proofs.PartBounds.{in_part}
use Rattle.file_parts.proofs.checked.check_bytes.Goals as goal

pub returns-clause-verdict : goal.returns-clause-verdict
returns-clause-verdict g c =
    let bounds = c.args.bounds in
    let left = c.limits_left-left.result in
    IfOk-weaker c.check_window-found.result _ _ (λ found is. in_part (λ (l : Allowed) (text : List ℕ). IsVerdictOf c.args.framing l text found.0)
    (g.S.Source.text c.args.source) _ (bytes_between bounds.begin bounds.end) (limits_after c.args.limits bounds.begin) left bounds.begin bounds.end
    c.new-window.ensures.bytes c.limits_left-left.ensures is) c.check_window-found.ensures.verdict

pub returns-clause-notes : goal.returns-clause-notes
returns-clause-notes g c =
    let bounds = c.args.bounds in
    let left = c.limits_left-left.result in
    IfOk-weaker c.check_window-found.result _ _ (λ found is. in_part (λ (l : Allowed) (text : List ℕ). AreNotesIf c.args.framing l c.args.asked text found.1)
    (g.S.Source.text c.args.source) _ (bytes_between bounds.begin bounds.end) (limits_after c.args.limits bounds.begin) left bounds.begin bounds.end
    c.new-window.ensures.bytes c.limits_left-left.ensures is) c.check_window-found.ensures.notes

use Rattle.report_forms.proofs.Common.{string_bytes, ◌∙◌, ◌++◌, ap, List, ℕ, on_ok_weaker}
use Rattle.std.specs.Prelude.{Bool}
use Rattle.report_forms.specs.Forms.Sarif.{sarif_entry}
use Rattle.report_forms.specs.Forms.Messages.{level_of}
use Rattle.report_forms.proofs.formats.sarif.put_entry.Goals as goal

pub returns : goal.returns
returns c =
    let entry = c.args.entry.now in
    let start = c.args.line.now.items in
    on_ok_weaker c.put_entry_result.result (λ is. (
      string_bytes c.in_ok-id.id,
      c.in_ok-id.ensures,
      is ∙ (ap (λ (id : List ℕ). start ++ sarif_entry c.level.result.now id entry) c.as_bytes.ensures.value
          ∙ ap (λ (level : List ℕ). start ++ sarif_entry level (string_bytes c.in_ok-id.id) entry)
          (c.level.ensures ∙ ap (λ (b : Bool). level_of b) c.note_fails.ensures)),
    )) c.put_entry_result.ensures

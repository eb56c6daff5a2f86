use Rattle.std.proofs.Common.{◌≡◌, true, false, refl}
use Rattle.gj_json.specs.Reader.{limits_of}
use Rattle.gj_hints.proofs.expected.may_end.Goals as goal

pub returns-in-Ok : goal.returns-in-Ok
returns-in-Ok c = λ bytes stands. let h = c.in-Ok.ensures.answer bytes stands in (λ _. (h.0, h.1), λ _. refl)

pub returns-in-Err : goal.returns-in-Err
returns-in-Err c = λ bytes stands. (
  λ (never : false ≡ true). let no : ⊥ = cc in absurd no,
  λ found. absurd (c.one_refusal.ensures.never_both (limits_of c.args.reader.now) bytes c.in-Err.field-0 found.0 (c.in-Err.ensures.answer bytes stands) found.1),
)

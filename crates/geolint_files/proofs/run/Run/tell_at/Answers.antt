use Rattle.std.proofs.Common.{refl}
use Rattle.std.proofs.lemmas.Result.{on_ok_weaker}
use Rattle.geolint_files.proofs.run.Run.tell_at.Goals as goal

pub returns-clause-told : goal.returns-clause-told
returns-clause-told g c = λ framing stand.
    on_ok_weaker c.tell_note.result (λ told. (
      _,
      refl,
      refl,
      c.find-mark.ensures.mark framing stand,
      told,
    )) c.tell_note.ensures

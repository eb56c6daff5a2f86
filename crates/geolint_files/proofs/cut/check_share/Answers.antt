use Rattle.geolint_files.proofs.Common.{refl}
use Rattle.std.proofs.lemmas.Result.{IfOk-at_ok, on_ok_weaker}
use Rattle.geolint_files.proofs.cut.check_share.Goals as goal

pub returns-in-Ok : goal.returns-in-Ok
returns-in-Ok g c =
    let asked = IfOk-at_ok _ c.in-Ok.is c.share_line-line.ensures.asked in
    on_ok_weaker c.put_share.result (λ told. (
      c.in-Ok.line,
      record { of_file = refl; share = asked.share; limits = asked.limits; strictness = asked.strictness },
      told,
    )) c.put_share.ensures

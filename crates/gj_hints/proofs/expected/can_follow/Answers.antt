use Rattle.std.proofs.Common.{[], ◌∷◌, ◌++◌, refl}
use Rattle.gj_json.specs.Reader.{limits_of}
use Rattle.gj_hints.proofs.NextBytes.{allowed_follows}
use Rattle.gj_hints.proofs.expected.can_follow.Goals as goal

pub returns-in-Ok : goal.returns-in-Ok
returns-in-Ok c = λ bytes after. (
  λ _. c.viable_fronts.ensures.without_limit (limits_of c.args.reader.now).depth (bytes ++ c.args.byte ∷ []) ((c.in-Ok.ensures.answer bytes after.stands).0),
  λ _. refl,
)

pub returns-in-Err : goal.returns-in-Err
returns-in-Err c = λ bytes after.
    let fronts = c.viable_fronts.ensures in
    rw c.allows.ensures
    (allowed_follows (limits_of c.args.reader.now) bytes c.args.byte c.in-Err.fault.cause c.in-Err.fault.place
    (record { front = fronts.front; front_within = fronts.front_within; without_limit = fronts.without_limit })
    after.viable after.few ((c.in-Err.ensures.answer bytes after.stands).0))

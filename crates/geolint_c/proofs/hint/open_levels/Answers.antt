-- The reader took all bytes before the place, unless it refused them: then no text goes on from them.
use Rattle.std.proofs.Common.{◌≡◌, [], ◌++◌, length, take, sym, subst, ◌∙◌}
use Rattle.std.proofs.Math.Seq.{take-length}
use Rattle.gj_json.specs.Limits.{Allowed, most}
use Rattle.gj_json.specs.Open.{open_at}
use Rattle.gj_json.specs.Reader.{offset_of}
use Rattle.gj_json.specs.Refusal.{IsRefusal}
use Rattle.gj_json.specs.Text.{IsText}
use Rattle.geolint_c.proofs.hint.open_levels.Goals as goal

pub returns-in-Ok : goal.returns-in-Ok
returns-in-Ok c = λ text rest admitted.
    let before = c.args.before.now in
    let stands = c.in-Ok.ensures.stands [] c.new-reader.ensures.stands in
    let taken : offset_of c.feed.new.self ≡ length before = c.bytes_taken.ensures.open c.feed.new.self before stands c.in-Ok.ensures.refusal in
    subst (λ n. c.levels.result ≡ open_at n text) taken
    (c.levels.ensures.open before rest text stands (subst (λ n. IsText text (take n before ++ rest)) (sym taken) (rw (take-length before) admitted.0.0)))

pub returns-in-Err : goal.returns-in-Err
returns-in-Err c = λ text rest admitted.
    let widest = c.new-reader.ensures.limits ∙ c.usual.ensures in
    let refused = (c.in-Err.ensures.answer [] c.new-reader.ensures.stands).1 rest in
    absurd (c.one_refusal.ensures.never_both most (c.args.before.now ++ rest) c.in-Err.field-0 text
    (subst (λ (l : Allowed). IsRefusal l (c.args.before.now ++ rest) c.in-Err.field-0) widest refused) admitted)

use Rattle.geolint_files.proofs.Common.{refl}
use Rattle.std.proofs.lemmas.Result.{on_ok_weaker}
use Rattle.geolint_files.proofs.Runs.NamedFiles.{one-of}
use Rattle.geolint_files.proofs.run.Run.judge_listed.Goals as goal

pub returns-then-eq : goal.returns-then-eq
returns-then-eq g c = on_ok_weaker c.tell_unread.result
    (λ (reason, tells). one-of g.W.Write.contents c.args.endings.now _ c.args.name.now c.args.self.now c.tell_unread.new.self refl tells) c.tell_unread.ensures

pub returns-then-eq-2 : goal.returns-then-eq-2
returns-then-eq-2 g c = on_ok_weaker c.tell_unread-then-eq-2.result
    (λ (reason, tells). one-of g.W.Write.contents c.args.endings.now _ c.args.name.now c.args.self.now c.tell_unread-then-eq-2.new.self refl tells) c.tell_unread-then-eq-2.ensures

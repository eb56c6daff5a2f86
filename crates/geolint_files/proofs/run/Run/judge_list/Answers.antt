use Rattle.geolint_files.proofs.Common.{refl, ◌∷◌, [], not_read}
use Rattle.std.proofs.Common.{inr}
use Rattle.std.proofs.lemmas.Result.{on_ok_weaker}
use Rattle.geolint_files.specs.Named.{none_named}
use Rattle.geolint_files.proofs.Runs.ToldFiles.{TellsFiles-one}
use Rattle.geolint_files.proofs.run.Run.judge_list.Goals as goal

pub returns-in-Err-opened : goal.returns-in-Err-opened
returns-in-Err-opened g c = on_ok_weaker c.tell_unread.result (λ (reason, tells). (
  not_read c.args.list.now reason ∷ [],
  ([], inr ([], [], refl, [], none_named, reason, refl)),
  TellsFiles-one g.W.Write.contents _ c.args.self.now c.tell_unread.new.self tells,
)) c.tell_unread.ensures

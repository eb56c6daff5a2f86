use Rattle.geolint_files.proofs.Common.{◌∷◌, [], List, TellsFiles}
use Rattle.std.proofs.Common.{true}
use Rattle.geolint_files.specs.Named.{GoesOn, next_in}
use Rattle.geolint_files.specs.Run.{ToldFile}
use Rattle.geolint_files.proofs.run.Run.judge_path.Given as goal

abbrev pub invariant-loop : goal.invariant-loop
invariant-loop g l =
    (told : List ToldFile) × GoesOn l.endings ((l.fn.path, true) ∷ []) (next_in l.walk) told × TellsFiles g.W.Write.contents told l.fn.self l.self

use Rattle.geolint_files.proofs.Common.{List, TellsFiles}
use Rattle.std.proofs.Common.{take}
use Rattle.geolint_files.specs.Named.{AreOf, given_in}
use Rattle.geolint_files.specs.Run.{ToldFile}
use Rattle.geolint_files.proofs.run.Run.judge_order.Given as goal

abbrev pub invariant-loop-path : goal.invariant-loop-path
invariant-loop-path g l =
    (told : List ToldFile) × AreOf l.order.endings.items (given_in (take l.path-index l.order.paths.items)) told
    × TellsFiles g.W.Write.contents told l.fn.self l.self

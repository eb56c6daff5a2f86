use Rattle.geolint_files.proofs.Common.{◌≡◌, List, ℕ, TellsFiles}
use Rattle.geolint_report.specs.Left.{left_of}
use Rattle.geolint_files.specs.Named.{AreOf, given_of}
use Rattle.geolint_files.specs.Run.{ToldFile}
use Rattle.geolint_files.proofs.Runs.NamedFiles.{Left}
use Rattle.geolint_files.proofs.run.Run.judge_names.Given as goal

abbrev pub invariant-loop : goal.invariant-loop
invariant-loop g l =
    (told : List ToldFile) × (names : List (List ℕ)) × AreOf l.endings (given_of names) told × (l.names.name_end ≡ l.fn.name_end)
    × Left l.fn.name_end (g.R.Read.remaining l.fn.reader) (left_of g.R.Read.remaining l.names) names × TellsFiles g.W.Write.contents told l.fn.self l.self

use Rattle.geolint_files.proofs.Common.{◌++◌, ◌∷◌, [], List, ℕ, Bool, Option, sym, subst, ◌∙◌, not_read}
use Rattle.std.proofs.Common.{true}
use Rattle.std.proofs.lemmas.List.{map-append}
use Rattle.std.proofs.lemmas.Result.{on_ok_weaker}
use Rattle.geolint_files.specs.Named.{AreOf, none_named}
use Rattle.geolint_files.proofs.Runs.NamedFiles.{Left, Left-start, Left-name, all-listed, some-listed, AreOf-then}
use Rattle.geolint_files.proofs.Runs.ToldFiles.{TellsFiles-none, TellsFiles-one, TellsFiles-then, unchanged}
use Rattle.geolint_files.proofs.run.Run.judge_names.Goals as goal

pub loop-init : goal.loop-init
loop-init g c = (
  [],
  [],
  none_named,
  c.new-names.ensures.end,
  subst (λ (left : Option (List ℕ)). Left c.args.name_end (g.R.Read.remaining c.args.reader) left []) (sym c.new-names.ensures.left)
      (Left-start c.args.name_end (g.R.Read.remaining c.args.reader)),
  TellsFiles-none g.W.Write.contents c.args.self.now c.args.self.now (unchanged c.args.self.now),
)

pub returns-in-End : goal.returns-in-End
returns-in-End g c =
    let (told, names, are, end, left, tells) = c.loop.invariant in
    let next = rw (c.in-End.is, end) at c.in-Ok.ensures.next in (
      told,
      all-listed _ c.args.endings.now c.args.list.now c.args.name_end (g.R.Read.remaining c.args.reader) _ _ names _ told left next are,
      tells,
    )

pub returns-in-Err : goal.returns-in-Err
returns-in-Err g c =
    let (told, names, are, end, left, tells) = c.loop.invariant in
    on_ok_weaker c.tell_unread.result (λ (reason, more). (
      told ++ not_read c.args.list.now reason ∷ [],
      some-listed c.args.endings.now c.args.list.now reason c.args.name_end (g.R.Read.remaining c.args.reader) _ names told left are,
      TellsFiles-then g.W.Write.contents told _ c.args.self.now c.loop.self c.tell_unread.new.self tells
          (TellsFiles-one g.W.Write.contents _ c.loop.self c.tell_unread.new.self more),
    )) c.tell_unread.ensures

pub loop-preserved : goal.loop-preserved
loop-preserved g c =
    let endings = c.args.endings.now in
    let name = c.as_slice.result.now in
    let (told, names, are, end, left, tells) = c.loop.invariant in
    let (more, then, more_tells) = c.in_ok-judge_listed-in_default.ensures in
    let longer = map-append (λ (one : List ℕ). (one, true)) names (name ∷ []) in
    let next = rw (end, sym c.as_slice.ensures.value) at c.in-Ok.ensures.next in (
      told ++ more,
      names ++ name ∷ [],
      subst (λ (all : List (List ℕ × Bool)). AreOf endings all (told ++ more)) (sym longer) (AreOf-then endings ((name, true) ∷ []) more are then),
      c.next_into.ensures.end ∙ end,
      Left-name _ c.args.name_end (g.R.Read.remaining c.args.reader) _ _ names c.in-Ok.listed name c.in_default.not-End left next,
      TellsFiles-then g.W.Write.contents told more c.args.self.now c.loop.self c.judge_listed.new.self tells more_tells,
    )

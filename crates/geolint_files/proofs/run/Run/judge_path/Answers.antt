use Rattle.geolint_files.proofs.Common.{◌++◌, ◌∷◌, [], List, ℕ, Bool, ap, sym, subst, ◌∙◌}
use Rattle.std.proofs.Common.{append-nil, reverse, true}
use Rattle.std.proofs.lemmas.Result.{on_ok_weaker}
use Rattle.geolint_files.specs.Named.{AreOf, none_named, GoesOn}
use Rattle.geolint_files.specs.Run.{ToldFile}
use Rattle.geolint_files.specs.Walk.{named_in}
use Rattle.geolint_files.specs.declared.walk.Pending.{Pending}
use Rattle.geolint_files.proofs.Runs.NamedFiles.{one-of, next-first, GoesOn-then}
use Rattle.geolint_files.proofs.Runs.ToldFiles.{TellsFiles-none, TellsFiles-then, unchanged}
use Rattle.geolint_files.proofs.run.Run.judge_path.Goals as goal

pub returns-then-eq : goal.returns-then-eq
returns-then-eq g c = on_ok_weaker c.judge_stream.result
    (λ (file, is, named, tells). one-of g.W.Write.contents c.args.endings.now file c.args.path.now c.args.self.now c.judge_stream.new.self named tells)
    c.judge_stream.ensures

pub loop-init : goal.loop-init
loop-init g c = (
  [],
  λ more are. subst (λ (names : List (List ℕ × Bool)). AreOf c.args.endings.now names more) (ap (λ (names : List (List ℕ × Bool)). reverse names) c.in_ok-walk.ensures) are,
  TellsFiles-none g.W.Write.contents c.args.self.now c.args.self.now (unchanged c.args.self.now),
)

pub loop-preserved : goal.loop-preserved
loop-preserved g c =
    let endings = c.args.endings.now in
    let (told, goes, tells) = c.loop.invariant in
    let (more, then, more_tells) = c.in_ok-look_at-in-Some.ensures in
    let is = rw (c.in-Some.is) at c.next_pending.ensures.next in
    let next = ap (λ (pending : List Pending). reverse (named_in pending)) is ∙ next-first c.next_pending.new.self.pending.items c.in-Some.pending in
    let whole = subst (λ (names : List (List ℕ × Bool)). GoesOn endings ((c.args.path.now, true) ∷ []) names told) next goes in (
      told ++ more,
      GoesOn-then endings _ _ _ told more whole then,
      TellsFiles-then g.W.Write.contents told more c.args.self.now c.loop.self c.look_at.new.self tells more_tells,
    )

pub returns-in-None : goal.returns-in-None
returns-in-None g c =
    let endings = c.args.endings.now in
    let (told, goes, tells) = c.loop.invariant in
    let none = rw (c.in-None.is) at c.next_pending.ensures.next in
    let are = subst (λ (pending : List Pending). AreOf endings (reverse (named_in pending)) []) (sym none) none_named in
    (told, subst (λ (files : List ToldFile). AreOf endings ((c.args.path.now, true) ∷ []) files) (append-nil told) (goes [] are), tells)

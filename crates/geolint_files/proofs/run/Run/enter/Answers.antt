use Rattle.geolint_files.proofs.Common.{refl, ap, sym, subst, ◌∙◌, ◌++◌, ◌∷◌, [], Vec, Global, not_read}
use Rattle.std.proofs.Common.{reverse}
use Rattle.std.proofs.lemmas.Result.{on_ok_weaker}
use Rattle.geolint_files.specs.Named.{GoesOn, next_in}
use Rattle.geolint_files.specs.Walk.{entries_in, named_in}
use Rattle.geolint_files.specs.declared.walk.Pending.{Pending}
use Rattle.geolint_files.proofs.Runs.NamedFiles.{GoesOn-nothing, GoesOn-file, GoesOn-entries}
use Rattle.geolint_files.proofs.Runs.ToldFiles.{TellsFiles-none, TellsFiles-one, unchanged}
use Rattle.geolint_files.proofs.run.Run.enter.Goals as goal

pub returns-in_ok-push_entries-in-Ok : goal.returns-in_ok-push_entries-in-Ok
returns-in_ok-push_entries-in-Ok g c =
    let name = c.args.name.now in
    let entries = c.as_slice.result.now in
    let pushed = c.in_ok-push_entries-in-Ok.ensures.pending
    ∙ ap (λ (pending : Vec Pending Global). named_in pending.items ++ reverse (entries_in name entries)) c.enters.ensures.pending in (
      [],
      λ endings is_given. GoesOn-entries endings name is_given entries c.args.walk.now.pending.items c.push_entries.new.self.pending.items pushed,
      TellsFiles-none g.W.Write.contents c.args.self.now c.args.self.now (unchanged c.args.self.now),
    )

pub returns-in-Err : goal.returns-in-Err
returns-in-Err g c =
    let name = c.args.name.now in
    let next = next_in c.args.walk.now in
    on_ok_weaker c.tell_unread.result (λ (reason, tells). (
      not_read name reason ∷ [],
      λ endings is_given. subst (λ (pending : Vec Pending Global). GoesOn endings ((name, is_given) ∷ next) (reverse (named_in pending.items)) (not_read name reason ∷ []))
          (sym c.enters.ensures.pending) (GoesOn-file endings (not_read name reason) name is_given next refl),
      TellsFiles-one g.W.Write.contents _ c.args.self.now c.tell_unread.new.self tells,
    )) c.tell_unread.ensures

pub returns-then-not-branch : goal.returns-then-not-branch
returns-then-not-branch g c =
    let name = c.args.name.now in
    let next = next_in c.args.walk.now in (
      [],
      λ endings is_given. subst (λ (pending : Vec Pending Global). GoesOn endings ((name, is_given) ∷ next) (reverse (named_in pending.items)) [])
          (sym c.enters.ensures.pending) (GoesOn-nothing endings name is_given next),
      TellsFiles-none g.W.Write.contents c.args.self.now c.args.self.now (unchanged c.args.self.now),
    )

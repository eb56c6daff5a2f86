use Rattle.geolint_files.proofs.Common.{ap, sym, ◌∙◌, ◌∷◌, [], List, ℕ}
use Rattle.std.proofs.lemmas.Bool.{true≢false}
use Rattle.std.proofs.lemmas.Result.{on_ok_weaker}
use Rattle.geolint_files.specs.Named.{next_in}
use Rattle.geolint_files.specs.Walk.{is_taken}
use Rattle.geolint_files.proofs.Runs.NamedFiles.{GoesOn-file, GoesOn-passed}
use Rattle.geolint_files.proofs.Runs.ToldFiles.{TellsFiles-none, TellsFiles-one, unchanged}
use Rattle.geolint_files.proofs.run.Run.look_at.Goals as goal
use Rattle.geolint_files.proofs.run.Run.look_at.Goals.{then-pending, else-pending}

pub returns-then-is_wanted : goal.returns-then-is_wanted
returns-then-is_wanted g c =
    let pending = c.args.pending.now in
    on_ok_weaker c.judge_named.result (λ (file, named, tells). (
      file ∷ [],
      GoesOn-file c.args.endings.now file pending.name.items pending.is_given (next_in c.args.walk.now) (named ∙ c.as_slice-name.ensures.value),
      TellsFiles-one g.W.Write.contents file c.args.self.now c.judge_named.new.self tells,
    )) c.judge_named.ensures

pub returns-in-Ok : goal.returns-in-Ok
returns-in-Ok g c =
    let pending = c.args.pending.now in
    let endings = c.args.endings.now in
    let next = next_in c.args.walk.now in
    on_ok_weaker c.pass_over.result (λ tells. (
      [],
      elim c.if-pending.branch [
        | then-pending w ↦ absurd (true≢false (sym w.if-pending.true ∙ (sym w.is_wanted-is ∙ c.if-is_wanted.false)))
        | else-pending w ↦ GoesOn-passed endings pending.name.items pending.is_given next w.if-pending.false
            (ap (λ (name : List ℕ). is_taken name endings) (sym c.as_slice-name.ensures.value)
            ∙ (sym (w.is_wanted-is ∙ w.is_taken-is_wanted.ensures) ∙ c.if-is_wanted.false))
      ],
      tells,
    )) c.pass_over.ensures

pub returns-then-is_lost_link : goal.returns-then-is_lost_link
returns-then-is_lost_link g c =
    let pending = c.args.pending.now in
    let endings = c.args.endings.now in
    let next = next_in c.args.walk.now in (
      [],
      elim c.if-pending.branch [
        | then-pending w ↦ absurd (true≢false (sym w.if-pending.true ∙ (sym w.is_wanted-is ∙ c.if-not-is_wanted.true)))
        | else-pending w ↦ GoesOn-passed endings pending.name.items pending.is_given next w.if-pending.false
            (ap (λ (name : List ℕ). is_taken name endings) (sym c.as_slice-name.ensures.value)
            ∙ (sym (w.is_wanted-is ∙ w.is_taken-is_wanted.ensures) ∙ c.if-not-is_wanted.true))
      ],
      TellsFiles-none g.W.Write.contents c.args.self.now c.args.self.now (unchanged c.args.self.now),
    )

pub returns : goal.returns
returns g c =
    let pending = c.args.pending.now in
    on_ok_weaker c.tell_unread.result (λ (reason, tells). (
      _ ∷ [],
      GoesOn-file c.args.endings.now _ pending.name.items pending.is_given (next_in c.args.walk.now) c.as_slice-name.ensures.value,
      TellsFiles-one g.W.Write.contents _ c.args.self.now c.tell_unread.new.self tells,
    )) c.tell_unread.ensures

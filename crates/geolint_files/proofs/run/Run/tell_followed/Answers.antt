use Rattle.std.proofs.Common.{rules, arith, refl, ap, subst, ◌≡◌, ◌-◌, ◌∙◌, ℕ, length}
use Rattle.std.proofs.lemmas.Result.{on_ok_weaker}
use Rattle.geolint_files.specs.Internal.RunState.{TellsLines}
use Rattle.geolint_files.specs.Listed.{IsMarkedBy, others_of}
use Rattle.geolint_files.proofs.Runs.ListedFiles.{none-told, more-told, whole-told, all-told}
use Rattle.geolint_files.proofs.run.Run.tell_followed.Goals as goal

pub loop-index-init : goal.loop-index-init
loop-index-init g c = none-told g.W.Write.contents (IsMarkedBy (g.F.Follower.says c.args.follower.now)) c.args.name.now c.args.self.now

pub loop-index-preserved : goal.loop-index-preserved
loop-index-preserved g c =
    more-told g.W.Write.contents (IsMarkedBy (g.F.Follower.says c.args.follower.now)) c.args.name.now c.args.notes.now.notes.items c.loop-index.index
    c.index-note.result.now _ c.args.self.now c.loop-index.self c.tell_note.new.self (search (arith, rules)) c.loop-index.invariant
    (refl, c.index-note.ensures, (c.mark_at-mark.ensures, refl)) c.in_ok-tell_note.ensures

pub returns : goal.returns
returns g c =
    let contents = g.W.Write.contents in
    let name = c.args.name.now in
    let notes = c.args.notes.now in
    let long : c.len.result ≡ length notes.notes.items = search rules in
    let left : c.others.result ≡ notes.count - length notes.notes.items = c.others.ensures.left ∙ ap (λ (n : ℕ). notes.count - n) long in
    on_ok_weaker c.tell_others.result (λ others.
    all-told contents (IsMarkedBy (g.F.Follower.says c.args.follower.now)) name notes.notes.items notes.count c.args.self.now c.loop-index.self
    c.tell_others.new.self
    (whole-told contents (IsMarkedBy (g.F.Follower.says c.args.follower.now)) name notes.notes.items c.loop-index.index c.args.self.now c.loop-index.self
    (search (arith, rules)) c.loop-index.invariant)
    (subst (λ (n : ℕ). TellsLines contents (others_of name n) c.loop-index.self c.tell_others.new.self) left others))
    c.tell_others.ensures

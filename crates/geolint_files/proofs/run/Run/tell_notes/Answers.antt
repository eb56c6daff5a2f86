use Rattle.geolint_files.proofs.Common.{arith, refl, subst, sym, ◌∙◌, List, ℕ, Option, StandBy, IsPlaced}
use Rattle.geolint_files.specs.Run.{feature_line}
use Rattle.geolint_files.proofs.Runs.ListedFiles.{none-told, more-told, whole-told, StandBy-then}
use Rattle.geolint_files.proofs.run.Run.tell_notes.Goals as goal

pub loop-note-init : goal.loop-note-init
loop-note-init g c =
    let text = g.S.Source.text c.args.source.now in
    record {
      told = λ framing stand. none-told g.W.Write.contents (IsPlaced framing text) c.args.name.now c.args.self.now;
      stand = λ framing stand. stand;
      text = refl;
    }

pub loop-note-preserved : goal.loop-note-preserved
loop-note-preserved g c =
    let text = g.S.Source.text c.args.source.now in
    let here = c.loop-note.invariant.text in
    let before = c.loop-note.invariant.stand in
    record {
      told = λ framing stand.
          let now = subst (λ (t : Option (List ℕ)). StandBy framing t c.loop-note.cursors) (sym here) (before framing stand) in
          let (entry, name, note, placed, tells) = c.in_ok-tell_at.ensures.told framing now in
          more-told g.W.Write.contents (IsPlaced framing text) c.args.name.now c.args.notes.now c.loop-note.note-index _ (feature_line entry) c.args.self.now
          c.loop-note.self c.tell_at.new.self c.loop-note-test.true (c.loop-note.invariant.told framing stand)
          (name, note, subst (λ (t : Option (List ℕ)). IsPlaced framing t entry) here placed) tells;
      stand = λ framing stand. StandBy-then framing text _ c.loop-note.cursors c.tell_at.new.cursors here (c.tell_at.ensures.stand framing)
          (before framing stand);
      text = c.tell_at.ensures.text ∙ here;
    }

pub returns-clause-told : goal.returns-clause-told
returns-clause-told g c = λ framing stand.
    whole-told g.W.Write.contents (IsPlaced framing (g.S.Source.text c.args.source.now)) c.args.name.now c.args.notes.now c.loop-note.note-index
    c.args.self.now c.loop-note.self (omega (arith, c.loop-note-test.false)) (c.loop-note.invariant.told framing stand)

pub returns-in_err-tell_at-clause-stand : goal.returns-in_err-tell_at-clause-stand
returns-in_err-tell_at-clause-stand g c = λ framing stand.
    StandBy-then framing (g.S.Source.text c.args.source.now) _ c.loop-note.cursors c.tell_at.new.cursors c.loop-note.invariant.text
    (c.tell_at.ensures.stand framing) (c.loop-note.invariant.stand framing stand)

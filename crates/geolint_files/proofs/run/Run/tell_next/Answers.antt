use Rattle.geolint_files.proofs.Common.{refl, subst, sym, List, ℕ, Option, StandBy, AreEntriesOf, IsPlaced}
use Rattle.std.proofs.KnownBytes.{Keeps-refl}
use Rattle.geolint_files.proofs.Runs.ListedFiles.{StandBy-then, TellsLines-after}
use Rattle.geolint_files.proofs.run.Run.tell_next.Goals as goal

pub returns-in_err-tell_notes-clause-stand : goal.returns-in_err-tell_notes-clause-stand
returns-in_err-tell_notes-clause-stand g c = λ framing stand.
    StandBy-then framing (g.S.Source.text c.args.source.now) _ c.args.cursors.now c.tell_notes.new.cursors c.read_on.ensures.text
    (c.tell_notes.ensures.stand framing) stand

pub returns-clause-stand : goal.returns-clause-stand
returns-clause-stand g c = λ framing stand.
    StandBy-then framing (g.S.Source.text c.args.source.now) _ c.args.cursors.now c.tell_notes.new.cursors c.read_on.ensures.text
    (c.tell_notes.ensures.stand framing) stand

pub returns-clause-told : goal.returns-clause-told
returns-clause-told g c = λ framing limits stand reads.
    let contents = g.W.Write.contents in
    let text = g.S.Source.text c.args.source.now in
    let old = c.args.self.now in
    let notes = c.in_ok-notes.notes.now in
    let same = c.read_on.ensures.text in
    let found = c.in_ok-notes.ensures framing limits text (c.read_on.ensures.stands framing limits reads) in
    let now = subst (λ (t : Option (List ℕ)). StandBy framing t c.args.cursors.now) (sym same) stand in
    let (lines, are, tells) = c.in_ok-tell_notes.ensures.told framing now in
    let placed = subst (λ (t : Option (List ℕ)). AreEntriesOf (IsPlaced framing t) c.args.name.now notes lines) same are in (
      notes,
      found,
      refl,
      (
        lines,
        placed,
        TellsLines-after contents lines old _ c.tell_notes.new.self
            (record {
              same = record { options = refl; style = refl; outcome = refl; summary = refl; tally = refl };
              log = refl;
              line = refl;
              out = Keeps-refl (contents old.out);
            }) tells,
      ),
    )

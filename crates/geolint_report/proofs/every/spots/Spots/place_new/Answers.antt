use Rattle.geolint_report.proofs.every.spots.Spots.place_new.Goals as goal

pub loop-note-preserved : goal.loop-note-preserved
loop-note-preserved c = λ bytes are. c.place.ensures bytes (c.loop-note.invariant bytes are)

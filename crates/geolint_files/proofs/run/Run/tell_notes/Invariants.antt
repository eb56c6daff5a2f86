use Rattle.geolint_files.proofs.Common.{◌≡◌, List, Option, StandBy, TellsLines, AreEntriesOf, IsPlaced}
use Rattle.std.proofs.Common.{take}
use Rattle.gj_rules.specs.declared.records.framing.Framing.{Framing}
use Rattle.geolint_files.specs.Run.{FeatureLine}
use Rattle.geolint_files.proofs.run.Run.tell_notes.Given as goal

-- the notes before this one are told
abbrev pub invariant-loop-note : goal.invariant-loop-note
invariant-loop-note g l = record {
  told : (framing : Option Framing) → StandBy framing (g.S.Source.text l.initial.source) l.initial.cursors
      → (lines : List FeatureLine) × AreEntriesOf (IsPlaced framing (g.S.Source.text l.initial.source)) l.name (take l.note-index l.notes) lines
      × TellsLines g.W.Write.contents lines l.initial.self l.self;
  stand : (framing : Option Framing) → StandBy framing (g.S.Source.text l.initial.source) l.initial.cursors
      → StandBy framing (g.S.Source.text l.initial.source) l.cursors;
  text : g.S.Source.text l.source ≡ g.S.Source.text l.initial.source;
}

-- A string opens and closes nothing.
use Rattle.gj_json.proofs.Common.{Event, List, What, ap, arith, event_at, refl, [], ◌∷◌, ◌≡◌}
use Rattle.std.proofs.Common.{take}
use Rattle.gj_json.specs.Names.{word_of}
use Rattle.gj_json.specs.Internal.OpenLevels.{levels_in}
use Rattle.gj_json.proofs.Pieces.TakenTokens.{text_taken}
use Rattle.gj_json.proofs.Pieces.TokensInLevels.{from_none, any_level}
use Rattle.gj_json.proofs.Readers.CallsInTurn.{of_prefix}
use Rattle.gj_json.proofs.reader.Reader.pass_text.Goals as goal

pub returns-clause-taken : goal.returns-clause-taken
returns-clause-taken c =
    let q = c.quoted_run-count in
    let quoted = q.ensures.quoted (omega arith) in
    let es : List Event = event_at c.args.self.now.offset (What.Text (word_of quoted.characters)) ∷ [] in
    rw (c.skip.ensures.count) (of_prefix q.ensures.within
    (any_level c.args.self.now c.skip.new.self (take q.result c.args.piece.now) es
    (text_taken {before = λ events. events ≡ []} {after = λ events. events ≡ es} c.args.self.now c.skip.new.self c.args.piece.now q.result c.requires.takes.0
    c.requires.due c.requires.takes.1 q.ensures.within c.skip.ensures.passed quoted (from_none es)) (λ k. refl) (ap levels_in c.skip.ensures.passed.levels)))

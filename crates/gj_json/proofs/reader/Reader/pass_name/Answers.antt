-- A name and its colon open and close nothing.
use Rattle.gj_json.proofs.Common.{Event, List, What, ap, arith, event_at, refl, [], ◌+◌, ◌∷◌, ◌≡◌}
use Rattle.std.proofs.Common.{take}
use Rattle.gj_json.specs.Names.{known_of}
use Rattle.gj_json.specs.Internal.OpenLevels.{levels_in}
use Rattle.gj_json.proofs.Pieces.PieceRests.{more_within}
use Rattle.gj_json.proofs.Pieces.TakenTokens.{named_taken}
use Rattle.gj_json.proofs.Pieces.TokensInLevels.{from_none, any_level}
use Rattle.gj_json.proofs.Readers.CallsInTurn.{of_prefix}
use Rattle.gj_json.proofs.reader.Reader.pass_name.Goals as goal

pub returns-clause-taken : goal.returns-clause-taken
returns-clause-taken c =
    let q = c.quoted_run-name in
    let k = c.colon_run-colon in
    let quoted = q.ensures.quoted (omega arith) in
    let es : List Event = event_at c.args.self.now.offset (What.Name (known_of quoted.characters)) ∷ [] in
    rw (c.skip.ensures.count) (of_prefix (more_within c.args.piece.now q.result k.result q.ensures.within k.ensures.within)
    (any_level c.args.self.now c.skip.new.self (take (q.result + k.result) c.args.piece.now) es
    (named_taken {before = λ events. events ≡ []} {after = λ events. events ≡ es} c.args.self.now c.skip.new.self c.args.piece.now q.result k.result
    c.requires.takes.0 c.requires.due c.requires.takes.1 q.ensures.within quoted k.ensures.within (k.ensures.leads (omega arith)) c.skip.ensures.passed
    (from_none es)) (λ k. refl) (ap levels_in c.skip.ensures.passed.levels)))

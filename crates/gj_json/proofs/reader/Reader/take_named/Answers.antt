-- A usual name, and its colon.
use Rattle.gj_json.proofs.Common.{ap, arith, drop, get_or, get_or-drop, length, ◌+◌, ◌-◌, ◌∙◌, ◌≡◌}
use Rattle.std.proofs.Common.{take}
use Rattle.gj_json.specs.Bytes.{colon as colon_byte}
use Rattle.gj_json.proofs.Grammar.SpelledTokens.{first_colon_cut}
use Rattle.gj_json.proofs.Pieces.PieceRests.{more_within, rest_of}
use Rattle.gj_json.proofs.Pieces.TakenTokens.{as_string, named_taken}
use Rattle.gj_json.proofs.Readers.CallsInTurn.{of_prefix}
use Rattle.gj_json.proofs.reader.Reader.take_named.Goals as goal

pub returns-clause-taken : goal.returns-clause-taken
returns-clause-taken g c =
    let n = c.usual_name-usual.result.count in
    let piece = c.args.piece.now in
    let few = c.usual_name-usual.ensures.within (omega arith) in
    let usual = c.usual_name-usual.ensures.usual (omega arith) in
    let rest = take (length piece - n) (drop n piece) in
    let z : n + 0 ≡ n = omega arith in
    let first : get_or rest 0 0 ≡ colon_byte =
    ap (λ xs. get_or xs 0 0) (rest_of piece n) ∙ get_or-drop n piece 0 0 ∙ ap (λ i. get_or piece i 0) z ∙ usual.colon in
    let colon = c.white_end-colon.result in
    let leads = first_colon_cut rest colon (omega arith) first c.white_end-colon.ensures.on c.white_end-colon.ensures.within c.white_end-colon.ensures.white in
    rw (c.skip.ensures.count) (of_prefix (more_within piece n colon (omega arith) c.white_end-colon.ensures.within)
    (named_taken c.args.self.now c.skip.new.self piece n colon c.requires.takes.0 c.requires.due c.requires.takes.1 (omega arith) (as_string usual.quoted)
    c.white_end-colon.ensures.within leads c.skip.ensures.passed (λ events h. rw (usual.known_as) (c.tell.ensures events h))))

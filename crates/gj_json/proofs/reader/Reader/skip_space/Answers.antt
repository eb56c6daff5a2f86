-- A space before a token leaves the mode as it is.
use Rattle.gj_json.proofs.Common.{List, arith, length, nat_tests, refl, space, subst, sym, ℕ, [], ◌<◌, ◌∷◌, ◌≡◌}
use Rattle.std.proofs.Common.{take}
use Rattle.gj_json.specs.Internal.QuietBytes.{Leads}
use Rattle.gj_json.proofs.Pieces.QuietModes.{awaits_other, awaits_no_text, quiet_white}
use Rattle.gj_json.proofs.Pieces.SkippedRuns.{leads_skips}
use Rattle.gj_json.proofs.Pieces.TokensInLevels.{first_byte}
use Rattle.gj_json.proofs.Readers.CallsInTurn.{of_prefix}
use Rattle.gj_json.proofs.reader.Reader.skip_space.Goals as goal

pub returns : goal.returns
returns c =
    let mode = c.args.self.now.mode in
    let due = c.requires.due in
    let some : 0 < length c.args.piece.now = grind (arith, nat_tests, c.if-is_empty.ensures) in
    let given : take 1 c.args.piece.now ≡ space ∷ [] =
    first_byte c.args.piece.now space some c.if-piece-ne32.false in
    let P : List ℕ → Type 0 = λ xs. Leads mode xs mode in
    let leads : Leads mode (take 1 c.args.piece.now) mode = subst P (sym given) (mode, quiet_white mode due space refl, refl) in
    rw (c.skip.ensures.count) (of_prefix some
    (leads_skips c.args.self.now c.skip.new.self (take 1 c.args.piece.now) 1 mode (rw given refl) c.skip.ensures.passed leads
    (awaits_other mode due) (awaits_no_text mode due)))

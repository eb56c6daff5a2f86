-- A string whose event matters, or does not.
use Rattle.gj_json.proofs.Common.{arith, nat_tests}
use Rattle.gj_json.proofs.Pieces.TokensInLevels.{token_of}
use Rattle.gj_json.proofs.Readers.CallsInTurn.{of_prefix}
use Rattle.gj_json.proofs.reader.Reader.take_string.Goals as goal

pub returns-then-this-ne0-clause-taken : goal.returns-then-this-ne0-clause-taken
returns-then-this-ne0-clause-taken g c =
    let t = c.take_text.ensures.taken in
    of_prefix t.within (token_of _ c.args.self.now c.take_text.new.self _ (λ h. t.holds) (λ h. absurd (grind (arith, nat_tests))))

pub returns-else-this-ne0-clause-taken : goal.returns-else-this-ne0-clause-taken
returns-else-this-ne0-clause-taken g c =
    let t = c.pass_text.ensures.taken in
    of_prefix t.within (token_of _ c.args.self.now c.pass_text.new.self _ (λ h. absurd (grind (arith, nat_tests))) (λ h. t.holds))

-- Each kind of value, and the byte after a string.
use Rattle.gj_json.proofs.Common.{ap, arith, length, nat_tests}
use Rattle.gj_json.specs.Internal.OpenLevels.{levels_in}
use Rattle.gj_json.proofs.Pieces.TokensInLevels.{token_both, token_of, token_then}
use Rattle.gj_json.proofs.Readers.CallsInTurn.{of_prefix}
use Rattle.gj_json.proofs.reader.Reader.take_value.Goals as goal

pub returns-else-text-piece : goal.returns-else-text-piece
returns-else-text-piece g c =
    let text = c.take_string-text in
    let end = c.take_end in
    let passed = text.ensures.passed (omega arith) in
    token_then _ _ _ _ c.args.self.now text.new.self end.new.self text.ensures.taken
    (token_both _ _ _ text.new.self end.new.self end.ensures.all end.ensures.any) (omega (arith, ap (λ ls. length (levels_in ls)) passed.levels))

pub returns-then-this-ne0 : goal.returns-then-this-ne0
returns-then-this-ne0 g c =
    let t = c.take_object in
    of_prefix t.ensures.within (token_of _ c.args.self.now t.new.self _ (λ h. t.ensures.holds) (λ h. absurd (grind (arith, nat_tests))))

pub returns-then-this-ne0-2 : goal.returns-then-this-ne0-2
returns-then-this-ne0-2 g c =
    let t = c.take_array in
    of_prefix t.ensures.within (token_of _ c.args.self.now t.new.self _ (λ h. t.ensures.holds) (λ h. absurd (grind (arith, nat_tests))))

pub returns-else-this-ne0 : goal.returns-else-this-ne0
returns-else-this-ne0 g c = let t = c.take_container in token_both _ _ _ c.args.self.now t.new.self t.ensures.all t.ensures.any

pub returns-else-this-ne0-2 : goal.returns-else-this-ne0-2
returns-else-this-ne0-2 g c = let t = c.take_container-else-this-ne0-2 in token_both _ _ _ c.args.self.now t.new.self t.ensures.all t.ensures.any

pub returns-in-110 : goal.returns-in-110
returns-in-110 g c = let t = c.take_constant in token_both _ _ _ c.args.self.now t.new.self t.ensures.all t.ensures.any

pub returns-in-116 : goal.returns-in-116
returns-in-116 g c = let t = c.take_constant-in-116 in token_both _ _ _ c.args.self.now t.new.self t.ensures.all t.ensures.any

pub returns-in-102 : goal.returns-in-102
returns-in-102 g c = let t = c.take_constant-in-102 in token_both _ _ _ c.args.self.now t.new.self t.ensures.all t.ensures.any

-- The table agrees with the definition at each byte.
use Rattle.gj_json.proofs.Common.{agree_below, agree_below_at, arith, eqb, get_or, refl, true, ◌%◌, ◌≡◌}
use Rattle.std.proofs.Common.{is_some}
use Rattle.gj_json.specs.Characters.{hex_of}
use Rattle.gj_json.specs.declared.characters.TheConstants.{IN_ESCAPES}
use Rattle.gj_json.proofs.characters.is_hexadecimal.Goals as goal

agrees : agree_below (λ b. eqb (get_or IN_ESCAPES b 0 % 2) 1) (λ b. is_some (hex_of b)) 256 ≡ true
unfolding hex_of
agrees = refl

pub returns : goal.returns
returns c = agree_below_at (λ b. eqb (get_or IN_ESCAPES b 0 % 2) 1) (λ b. is_some (hex_of b)) 256 c.args.byte agrees (omega arith)

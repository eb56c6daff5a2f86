-- The table agrees with the definition at each byte.
use Rattle.gj_json.proofs.Common.{agree_below, agree_below_at, arith, get_or, leb, refl, true, ◌≡◌}
use Rattle.std.proofs.Common.{is_some}
use Rattle.gj_json.specs.Characters.{escape_of}
use Rattle.gj_json.specs.declared.characters.TheConstants.{IN_ESCAPES}
use Rattle.gj_json.proofs.characters.is_short.Goals as goal

agrees : agree_below (λ b. leb 2 (get_or IN_ESCAPES b 0)) (λ b. is_some (escape_of b)) 256 ≡ true
unfolding escape_of
agrees = refl

pub returns : goal.returns
returns c = agree_below_at (λ b. leb 2 (get_or IN_ESCAPES b 0)) (λ b. is_some (escape_of b)) 256 c.args.byte agrees (omega arith)

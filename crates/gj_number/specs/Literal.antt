-- Which bytes a literal stands for. The body is internal to this crate: a caller has `new` and that each call keeps it.
use Rattle.std.specs.Prelude.{◌≡◌, ℕ, true, min, List}
use Rattle.gj_number.specs.declared.literal.Literal.{Literal}
use Rattle.gj_number.specs.Internal.NumberMachine.{Scan, start, Reaches, is_before_fraction}
use Rattle.gj_number.specs.Internal.KeptDigits.{Keeps}

-- the literal keeps what it needs of the scan
pub record KeepsScan (literal : Literal) (scan : Scan) : Type 0 where
  pub state : literal.state ≡ scan.state
  pub negative : literal.negative ≡ scan.negative
  pub digits : Keeps literal.digits scan.whole scan.fraction
  pub exponent_negative : literal.exponent.negative ≡ scan.exponent_negative
  pub exponent : literal.exponent.magnitude ≡ min scan.exponent 1001
  pub before_fraction : is_before_fraction scan.state ≡ true → scan.fraction ≡ 0

unfoldable pub StandsFor : Literal → List ℕ → Type 0
StandsFor literal bytes = (scan : Scan) × Reaches start bytes scan × KeepsScan literal scan

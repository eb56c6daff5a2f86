-- Digits as numbers from 0 to 9.
use Rattle.std.specs.Prelude.{ℕ, ◌+◌, ◌*◌, ◌%◌, List, [], ◌∷◌, not, nat_le}
use Rattle.std.specs.List.{prefix_len}

-- a byte less that of the digit 0, as a lane has it
abbrev pub lane_of : ℕ → ℕ
lane_of b = (b + 208) % 256

-- one digit more
abbrev pub with_value : ℕ → ℕ → ℕ
with_value n digit = n * 10 + digit

-- each two digits as one number
abbrev pub by_twos : List ℕ → List ℕ
by_twos (a ∷ b ∷ digits) = (a * 10 + b) ∷ by_twos digits
by_twos _ = []

-- each two numbers below 100 as one number
abbrev pub by_both : List ℕ → List ℕ
by_both (a ∷ b ∷ numbers) = (a * 100 + b) ∷ by_both numbers
by_both _ = []

-- each four digits as one number
abbrev pub by_fours : List ℕ → List ℕ
by_fours (a ∷ b ∷ c ∷ d ∷ digits) = (((a * 10 + b) * 10 + c) * 10 + d) ∷ by_fours digits
by_fours _ = []

-- each two numbers below 10^8 as one number
abbrev pub by_eights : List ℕ → List ℕ
by_eights (a ∷ b ∷ numbers) = (a * 100000000 + b) ∷ by_eights numbers
by_eights _ = []

-- how many of them come before the first that is no digit
abbrev pub leading : List ℕ → ℕ
leading lanes = prefix_len (λ x. not (nat_le 10 x)) lanes

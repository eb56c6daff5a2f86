-- The limits that a text is read under.
use Rattle.std.specs.Prelude.{ℕ, ◌≤◌, ◌^◌, refl}
use Rattle.gj_json.specs.declared.limits.TheConstants.{MOST_LEVELS}
use Rattle.std.specs.Coded.{Coded, code_by, coded×, coded_ℕ}

-- the most arrays and objects that may be open at once, and the most bytes
pub record Allowed : Type 0 where
  pub depth : ℕ
  pub bytes : ℕ

abbrev pub allowed_code : Coded Allowed
allowed_code =
    code_by (ℕ × ℕ) (coded× coded_ℕ coded_ℕ) (λ a. (a.depth, a.bytes)) (λ p. record { depth = p.0; bytes = p.1 }) (λ _. refl)

pub record IsAllowed (depth bytes : ℕ) : Type 0 where
  pub some_level : 1 ≤ depth
  pub most_levels : depth ≤ MOST_LEVELS
  pub some_byte : 1 ≤ bytes
  pub most_bytes : bytes ≤ 2 ^ 60

-- the widest limits
abbrev pub most : Allowed
most = record { depth = MOST_LEVELS; bytes = 2 ^ 60 }

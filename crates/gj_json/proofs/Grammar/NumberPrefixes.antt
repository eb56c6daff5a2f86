-- The first bytes of a number, and the bytes with which one goes on.
use Rattle.gj_json.proofs.Common.{BeginsNumber, IsNumber, List, append_assoc, false, true, ℕ, [], ◌++◌, ◌∷◌, ◌≡◌}
use Rattle.std.proofs.lemmas.List.{append-nil}
use Rattle.std.proofs.lemmas.Bool.{false_from_ne_true}
use Rattle.gj_number.specs.Bytes.{IsNumberByte}
use Rattle.gj_number.specs.DecidedNumbers.{begins_number}
use Rattle.gj_number.proofs.Grammar.DecidedNumbers.{begins, last, no_number}
use Rattle.gj_json.specs.Broken.{BeginsNumber as NumberBegun}

pub number_front : (xs ys : List ℕ) → BeginsNumber (xs ++ ys) → BeginsNumber xs
number_front xs ys h = (ys ++ h.0, rw (← append_assoc xs ys h.0) h.1)

pub number_begun : (literal : List ℕ) → IsNumber literal → NumberBegun literal
number_begun literal i = ((λ e. no_number (rw e at i)), ([], rw (append-nil literal) i))

pub goes_on : (so_far more : List ℕ) (b : ℕ) → BeginsNumber (so_far ++ b ∷ more) → begins_number (so_far ++ b ∷ []) ≡ true
goes_on so_far more b h = (begins (so_far ++ b ∷ [])).1 (number_front (so_far ++ b ∷ []) more (rw (append_assoc so_far (b ∷ []) more) h))

-- no number goes on with a byte that none has
pub stops : (so_far : List ℕ) (b : ℕ) → (IsNumberByte b → ⊥) → begins_number (so_far ++ b ∷ []) ≡ false
stops so_far b never = false_from_ne_true (begins_number (so_far ++ b ∷ [])) (λ e. never (last so_far b ((begins (so_far ++ b ∷ [])).0 e)))

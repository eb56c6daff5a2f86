-- Some events, reported one after another, are a list of them.
use Rattle.gj_json.proofs.Common.{Event, List, append_assoc, [], ◌++◌, ◌∷◌, ◌≡◌}

pub three : (xs : List Event) (a b c : Event) → ((xs ++ a ∷ []) ++ b ∷ []) ++ c ∷ [] ≡ xs ++ (a ∷ b ∷ c ∷ [])
three xs a b c = simp append_assoc

pub four : (xs : List Event) (a b c d : Event) → (((xs ++ a ∷ []) ++ b ∷ []) ++ c ∷ []) ++ d ∷ [] ≡ xs ++ (a ∷ b ∷ c ∷ d ∷ [])
four xs a b c d = simp append_assoc

pub five : (xs : List Event) (a b c d e : Event) → ((((xs ++ a ∷ []) ++ b ∷ []) ++ c ∷ []) ++ d ∷ []) ++ e ∷ [] ≡ xs ++ (a ∷ b ∷ c ∷ d ∷ e ∷ [])
five xs a b c d e = simp append_assoc

-- three of them reported as one
pub around_three : (xs : List Event) (a b c d e : Event) → ((xs ++ a ∷ []) ++ (b ∷ c ∷ d ∷ [])) ++ e ∷ [] ≡ xs ++ (a ∷ b ∷ c ∷ d ∷ e ∷ [])
around_three xs a b c d e = simp append_assoc

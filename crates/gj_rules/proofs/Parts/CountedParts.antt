-- Which parts count, as one more comes.
use Rattle.gj_rules.proofs.Common.{Bool, Entry, Framing, List, Part, ap, entries_from, entries_in, entry_at, false, first_number, number_from, refl}
use Rattle.gj_rules.proofs.Common.{sym, true, [], ◌++◌, ◌∙◌, ◌∷◌}
use Rattle.std.proofs.Common.{◌≡◌, ℕ}
use Rattle.gj_rules.specs.Records.{entry_if, is_counted, number_after}

if-append : (b : Bool) (entry : Entry) (xs ys : List Entry) → entry_if b entry (xs ++ ys) ≡ entry_if b entry xs ++ ys
if-append true entry xs ys = refl
if-append false entry xs ys = refl

pub entries-append : (framing : Framing) (number : ℕ) (parts more : List Part)
    → entries_from framing number (parts ++ more) ≡ entries_from framing number parts ++ entries_from framing (number_from framing number parts) more
entries-append framing number [] more = refl
entries-append framing number (part ∷ parts) more =
    ap (entry_if (is_counted framing number part) (entry_at number part))
    (entries-append framing (number_after (is_counted framing number part) number) parts more)
    ∙ if-append (is_counted framing number part) (entry_at number part) _ _

number-append : (framing : Framing) (number : ℕ) (parts more : List Part)
    → number_from framing number (parts ++ more) ≡ number_from framing (number_from framing number parts) more
number-append framing number [] more = refl
number-append framing number (part ∷ parts) more = number-append framing (number_after (is_counted framing number part) number) parts more

-- one part more, given the number that it has and whether it counts
pub next_number : (framing : Framing) (done : List Part) (part : Part) (number : ℕ) (b : Bool) → number ≡ number_from framing (first_number framing) done
    → is_counted framing number part ≡ b
    → number_from framing (first_number framing) (done ++ part ∷ []) ≡ number_after b number
next_number framing done part number b e f =
    number-append framing (first_number framing) done (part ∷ [])
    ∙ (ap (λ n. number_after (is_counted framing n part) n) (sym e) ∙ ap (λ t. number_after t number) f)

pub next_entries : (framing : Framing) (done : List Part) (part : Part) (number : ℕ) (b : Bool) → number ≡ number_from framing (first_number framing) done
    → is_counted framing number part ≡ b
    → entries_in framing (done ++ part ∷ []) ≡ entries_in framing done ++ entry_if b (entry_at number part) []
next_entries framing done part number b e f =
    entries-append framing (first_number framing) done (part ∷ [])
    ∙ (ap (λ n. entries_in framing done ++ entry_if (is_counted framing n part) (entry_at n part) []) (sym e)
    ∙ ap (λ t. entries_in framing done ++ entry_if t (entry_at number part) []) f)

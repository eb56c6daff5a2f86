-- What a read at a place gives of a text.
use Rattle.gj_split.proofs.Common.{List, None, Ok, Option, Some, StandsAt, ap, arith, bytes_between, drop, length, same_Some, subst, sym, take}
use Rattle.gj_split.proofs.Common.{take-append-drop, ℕ, ◌++◌, ◌+◌, ◌-◌, ◌<◌, ◌∙◌, ◌≡◌, ◌≤◌}
use Rattle.std.proofs.Common.{min}
use Rattle.std.proofs.Common.{add-sub_of_le, take-take, take-add, drop-drop, length-take-le, length-take, length-drop}
use Rattle.gj_split.specs.Ranges.{ReadsFrom}

pub part_read : (E : Type 0) (known : Option (List ℕ)) (place n : ℕ) (piece bytes : List ℕ) → ReadsFrom {E = E} known place (Ok n) piece → known ≡ Some bytes
    → StandsAt bytes place (take n piece)
part_read E None place n piece bytes h e = cc
part_read E (Some known) place n piece bytes h e = subst (λ xs. StandsAt xs place (take n piece)) (same_Some known bytes e) h.0

-- the front of what was read, after what stands before it
pub more_between : (place at due n : ℕ) (piece bytes : List ℕ) → place ≤ at → due ≤ n → n ≤ length piece → StandsAt bytes at (take n piece) →
    bytes_between place at bytes ++ take due piece ≡ bytes_between place (at + due) bytes
more_between place at due n piece bytes l m k h =
    let long : length (take n piece) ≡ n = length-take-le n piece k in
    let read : take due piece ≡ take due (drop at bytes) =
    sym (take-take due n piece m) ∙ (ap (take due) (h ∙ ap (λ j. take j (drop at bytes)) long) ∙ take-take due n (drop at bytes) m) in
    let from : drop (at - place) (drop place bytes) ≡ drop at bytes = drop-drop (at - place) place bytes ∙ ap (λ j. drop j bytes) (add-sub_of_le l) in
    ap (λ xs. take (at - place) (drop place bytes) ++ xs) (read ∙ ap (take due) (sym from))
    ∙ (sym (take-add (at - place) due (drop place bytes)) ∙ ap (λ j. take j (drop place bytes)) (counted place at due l))
  where
    counted : (p a d : ℕ) → p ≤ a → a - p + d ≡ a + d - p
    counted p a d l = omega (arith, l)

-- the rest of the text after what was read
pub read_and_rest : (at : ℕ) (part bytes : List ℕ) → StandsAt bytes at part → drop at bytes ≡ part ++ drop (at + length part) bytes
read_and_rest at part bytes h =
    sym (take-append-drop (length part) (drop at bytes))
    ∙ (ap (λ xs. xs ++ drop (length part) (drop at bytes)) (sym h) ∙ ap (λ xs. part ++ xs) (drop-drop (length part) at bytes))

-- where no byte came the text has ended
pub ended_there : (E : Type 0) (known : Option (List ℕ)) (at n : ℕ) (piece bytes : List ℕ) → ReadsFrom {E = E} known at (Ok n) piece → known ≡ Some bytes
    → n ≡ 0 → 0 < length piece → length bytes ≤ at
ended_there E None at n piece bytes h e z l = cc
ended_there E (Some known) at n piece bytes h e z l = let s : known ≡ bytes = cc in subst (λ xs. length xs ≤ at) s (h.1 z l)

read_there : (at n : ℕ) (piece bytes : List ℕ) → n ≤ length piece → StandsAt bytes at (take n piece) → take n piece ≡ take n (drop at bytes)
read_there at n piece bytes k h = h ∙ ap (λ j. take j (drop at bytes)) (length-take-le n piece k)

-- what was read follows what stands before it
pub fed_more : (at n : ℕ) (piece bytes : List ℕ) → n ≤ length piece → StandsAt bytes at (take n piece) → take at bytes ++ take n piece ≡ take (at + n) bytes
fed_more at n piece bytes k h = ap (λ xs. take at bytes ++ xs) (read_there at n piece bytes k h) ∙ sym (take-add at n bytes)

pub within_more : (at n : ℕ) (piece bytes : List ℕ) → at ≤ length bytes → n ≤ length piece → StandsAt bytes at (take n piece) → at + n ≤ length bytes
within_more at n piece bytes l k h =
    let long : length (take n (drop at bytes)) ≡ n = ap length (sym (read_there at n piece bytes k h)) ∙ length-take-le n piece k in
    let few : length (take n (drop at bytes)) ≡ min n (length (drop at bytes)) = length-take n (drop at bytes) in
    let left : length (drop at bytes) ≡ length bytes - at = length-drop at bytes in
    by_numbers (length (take n (drop at bytes))) (length (drop at bytes)) (length bytes) l long few left
  where
    by_numbers : (a b c : ℕ) → at ≤ c → a ≡ n → a ≡ min n b → b ≡ c - at → at + n ≤ c
    by_numbers a b c l e f g = omega (arith, l, e, f, g)

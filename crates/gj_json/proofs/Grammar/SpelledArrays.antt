-- An array of two or three numbers is spelled by its numbers, each where it stands, and what stands around them.
use Rattle.gj_json.proofs.Common.{AllByRecursion, IsItem, IsValued, IsWhite, List, Numbered, SFits, Short, SpellsNumbers}
use Rattle.gj_json.proofs.Common.{arith, cut, get_or, length, open_bracket, option_to_list, subst}
use Rattle.gj_json.proofs.Common.{sym, w64, ℕ, ◌+◌, ◌<◌, ◌∷◌, ◌≡◌, ◌≤◌}
use Rattle.std.proofs.Common.{take}
use Rattle.std.proofs.lemmas.Int.{to_z-of_z}
use mir.Val.{to_z, of_z}
use Rattle.gj_number.specs.declared.short.cuts.Cut.{Cut}
use Rattle.gj_number.specs.Cuts.{IsCut}
use Rattle.gj_json.specs.Bytes.{comma}
use Rattle.gj_json.specs.Internal.SpelledPositions.{ClosesAt}
use Rattle.gj_json.proofs.Grammar.SpelledPairs.{none_cut}
use Rattle.gj_json.proofs.Grammar.SpelledFlats.{item_cut, more_cut, flat_cut}

-- the cut value as a field of 64 bits has it
pub of_value : (short : Short) (cut : Cut) → SFits w64 cut.value → IsCut short cut
    → IsCut short (record { value = to_z w64 (of_z w64 cut.value); precise = cut.precise })
of_value short cut fits is = subst (λ v. IsCut short (record { value = v; precise = cut.precise })) (sym (to_z-of_z w64 cut.value fits)) is

-- where the first number begins, the comma after it, the second number and its end, and the closing bracket
module _ (piece : List ℕ) (start : ℕ) (first second : Numbered) (first_at comma_at second_at end close : ℕ) (closes : ClosesAt piece start end close)
    (bracket : get_or piece 0 0 ≡ open_bracket) (within : close < length piece) (one : first.place ≡ start + first_at) (some : 1 ≤ first_at)
    (before : AllByRecursion IsWhite (cut piece 1 first_at)) (ordered_one : first_at ≤ comma_at)
    (valued_one : IsValued first.value (cut piece first_at comma_at)) (is_comma : get_or piece comma_at 0 ≡ comma)
    (other : second.place ≡ start + second_at) (after : comma_at + 1 ≤ second_at) (between : AllByRecursion IsWhite (cut piece (comma_at + 1) second_at))
    (ordered : second_at ≤ end) (valued_other : IsValued second.value (cut piece second_at end)) where
  pub array_spelled : SpellsNumbers start (first ∷ second ∷ option_to_list closes.third) (start + close) start (take (close + 1) piece)
  array_spelled =
      let third = option_to_list closes.third in
      let last = closes.last in
      let on = closes.on in
      let up = closes.before in
      let a : IsItem first (start + 1) (cut piece 1 comma_at) =
      item_cut piece start first 1 first_at comma_at comma_at some ordered_one (omega arith) (omega arith) before one valued_one (none_cut piece comma_at) in
      let b : IsItem second (start + (comma_at + 1)) (cut piece (comma_at + 1) last) =
      item_cut piece start second (comma_at + 1) second_at end last after ordered on (omega arith) between other valued_other closes.white in
      let more = more_cut piece start second third (start + close) comma_at last (close + 1) is_comma (omega arith) (omega arith) (omega arith) b closes.more in
      flat_cut piece start first (second ∷ third) (start + close) comma_at (close + 1) bracket (omega arith) (omega arith) (omega arith) a more

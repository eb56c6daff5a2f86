-- What a read gives of the bytes up to a place.
use Rattle.file_parts.proofs.Common.{arith, ◌≡◌, ◌+◌, ◌-◌, ◌<◌, ◌≤◌, ℕ, ap, sym, subst, ◌∙◌, List, length, take, Option, bytes_between}
use Rattle.std.proofs.Common.{[], ◌++◌, drop, min, inl, inr, Some, None}
use Rattle.std.specs.Option.{option_map}
use Rattle.std.specs.Io.KnownBytes.{Consumes, IsAtEnd}
use Rattle.std.proofs.lemmas.Bool.{cases_lt}
use Rattle.std.proofs.lemmas.List.{take-append-le, length-take-le, take-take, take_all, drop_all, drop-drop}
use Rattle.std.proofs.Math.Seq.{take-add}
use Rattle.geolint_report.specs.Every.{GaveFrom, GaveBy}

between_more : (text piece : List ℕ) (place end count taken : ℕ) → drop place text ≡ take count piece ++ drop (place + count) text → count ≤ length piece
    → taken ≤ count → place + taken ≤ end → bytes_between place end text ≡ take taken piece ++ bytes_between (place + taken) end text
between_more text piece place end count taken given within less fits =
    let read = take count piece in
    let long : length read ≡ count = length-take-le count piece within in
    let more = end - (place + taken) in
    let both : end - place ≡ taken + more = omega (arith, fits) in
    let first : take taken (drop place text) ≡ take taken piece =
    ap (λ (l : List ℕ). take taken l) given
    ∙ (take-append-le taken read (drop (place + count) text) (omega (arith, long, less)) ∙ take-take taken count piece less) in
    let further : drop taken (drop place text) ≡ drop (place + taken) text = drop-drop taken place text in
    ap (λ (n : ℕ). take n (drop place text)) both
    ∙ (take-add taken more (drop place text)
    ∙ (ap (λ (l : List ℕ). l ++ take more (drop taken (drop place text))) first ∙ ap (λ (l : List ℕ). take taken piece ++ take more l) further))

nothing_left : (text : List ℕ) (place end : ℕ) → length text ≤ place → bytes_between place end text ≡ []
nothing_left text place end past =
    ap (λ (l : List ℕ). take (end - place) l) (drop_all place text past) ∙ take_all (end - place) [] (omega arith)

no_room : (text : List ℕ) (place end : ℕ) → end ≤ place → bytes_between place end text ≡ []
no_room text place end past =
    let none : end - place ≡ 0 = omega (arith, past) in
    ap (λ (n : ℕ). take n (drop place text)) none

at_end : (text piece : List ℕ) (place end count taken : ℕ) → GaveFrom text place count piece → taken ≡ min count (end - place) → taken ≡ 0 → 0 < length piece
    → bytes_between (place + taken) end text ≡ []
at_end text piece place end count taken gave is none room = elim (cases_lt 0 count) [
  | inl some ↦ no_room text (place + taken) end (omega (arith, some, is, none))
  | inr none_came ↦
      let zero_count : count ≡ 0 = omega (arith, none_came) in
      let past : length text ≤ place = gave.none zero_count room in
      nothing_left text (place + taken) end (omega (arith, past))
]

pub window_read : (known now : Option (List ℕ)) (place end count taken : ℕ) (piece : List ℕ) → now ≡ known → GaveBy known place count piece
    → count ≤ length piece → place ≤ end → taken ≡ min count (end - place)
    → Consumes (option_map (bytes_between place end) known) (option_map (bytes_between (place + taken) end) now) (take taken piece)
    × (taken ≡ 0 → 0 < length piece → IsAtEnd (option_map (bytes_between (place + taken) end) now))
window_read None now place end count taken piece same gave within ordered is = subst
    (λ (o : Option (List ℕ)). Consumes (option_map (bytes_between place end) None) (option_map (bytes_between (place + taken) end) o) (take taken piece)
    × (taken ≡ 0 → 0 < length piece → IsAtEnd (option_map (bytes_between (place + taken) end) o))) (sym same) (tt, λ _ _. tt)
window_read (Some text) now place end count taken piece same gave within ordered is = subst
    (λ (o : Option (List ℕ)). Consumes (option_map (bytes_between place end) (Some text)) (option_map (bytes_between (place + taken) end) o) (take taken piece)
    × (taken ≡ 0 → 0 < length piece → IsAtEnd (option_map (bytes_between (place + taken) end) o))) (sym same) (
      between_more text piece place end count taken gave.given within (omega (arith, is)) (omega (arith, is, ordered)),
      λ none room.
          at_end text piece place end count taken gave is none room,
    )

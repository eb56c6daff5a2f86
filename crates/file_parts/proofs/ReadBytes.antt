-- The bytes of a text that were read, and those of one read more.
use Rattle.std.proofs.Common.{arith, ◌≡◌, ◌+◌, ◌-◌, ◌<◌, ◌≤◌, ℕ, ap, sym, subst, ◌∙◌, List, ◌++◌, length, take, drop, Option, Some, None, append_assoc}
use Rattle.std.specs.Prelude.{IfSome}
use Rattle.std.proofs.lemmas.List.{take-append-le, length-take-le, take-take, drop-drop, length-append, length-drop}
use Rattle.std.proofs.Math.Seq.{take-add, take-append-add}
use borrow.Rule.Slice.PartMut.{put_mid, post_of}
use Rattle.geolint_report.specs.Every.{GaveBy}
use Rattle.file_parts.specs.Cuts.{bytes_between}

module _ (text piece : List ℕ) (place count taken : ℕ) (given : drop place text ≡ take count piece ++ drop (place + count) text)
    (within : count ≤ length piece) (less : taken ≤ count) where
  first_given : take taken (drop place text) ≡ take taken piece
  first_given =
      let read = take count piece in
      let long : length read ≡ count = length-take-le count piece within in
      ap (λ (l : List ℕ). take taken l) given
      ∙ (take-append-le taken read (drop (place + count) text) (omega (arith, long, less)) ∙ take-take taken count piece less)

  pub take_more : take (place + taken) text ≡ take place text ++ take taken piece
  take_more = take-add place taken text ∙ ap (λ (l : List ℕ). take place text ++ l) first_given

  pub between_more : (begin : ℕ) → begin ≤ place → bytes_between begin (place + taken) text ≡ bytes_between begin place text ++ take taken piece
  between_more begin ordered =
      let both : (place + taken) - begin ≡ (place - begin) + taken = omega (arith, ordered) in
      let there : begin + (place - begin) ≡ place = omega (arith, ordered) in
      let rest : drop (place - begin) (drop begin text) ≡ drop place text = drop-drop (place - begin) begin text ∙ ap (λ (n : ℕ). drop n text) there in
      ap (λ (n : ℕ). take n (drop begin text)) both
      ∙ (take-add (place - begin) taken (drop begin text)
      ∙ ap (λ (l : List ℕ). bytes_between begin place text ++ l) (ap (λ (l : List ℕ). take taken l) rest ∙ first_given))

  pub reached : 0 < taken → place + taken ≤ length text
  reached some =
      let both : length (drop place text) ≡ length (take count piece) + length (drop (place + count) text) =
      ap length given ∙ length-append (take count piece) (drop (place + count) text) in
      omega (arith, both, length-take-le count piece within, length-drop place text, some, less)

pub between_split : (text : List ℕ) (begin place end : ℕ) → begin ≤ place → place ≤ end
    → bytes_between begin end text ≡ bytes_between begin place text ++ bytes_between place end text
between_split text begin place end first last =
    let m = place - begin in
    let n = end - place in
    let both : end - begin ≡ m + n = omega (arith, first, last) in
    let there : begin + m ≡ place = omega (arith, first) in
    let rest : drop m (drop begin text) ≡ drop place text = drop-drop m begin text ∙ ap (λ (k : ℕ). drop k text) there in
    ap (λ (k : ℕ). take k (drop begin text)) both ∙ take-add m n (drop begin text) ∙ ap (λ (l : List ℕ). bytes_between begin place text ++ take n l) rest

-- a piece in which the next bytes were put after the first
pub put_long : (piece part : List ℕ) (count room : ℕ) → count ≤ length piece → count + length part ≤ length (put_mid count room piece part)
put_long piece part count room within =
    let rest = post_of count room piece in
    omega (arith, length-append (take count piece) (part ++ rest), length-append part rest, length-take-le count piece within)

pub filled_more : (text piece part : List ℕ) (place count more room : ℕ) → count ≤ length piece → more ≤ length part
    → drop place text ≡ take count piece ++ drop (place + count) text → drop (place + count) text ≡ take more part ++ drop (place + count + more) text
    → drop place text ≡ take (count + more) (put_mid count room piece part) ++ drop (place + (count + more)) text
filled_more text piece part place count more room within less was given =
    let first = take count piece in
    let next = take more part in
    let last = drop (place + count + more) text in
    let here = put_mid count room piece part in
    let rest = post_of count room piece in
    let long : count + more ≡ length first + more = omega (arith, length-take-le count piece within) in
    let front : take (count + more) here ≡ first ++ next =
    ap (λ (n : ℕ). take n here) long ∙ take-append-add first (part ++ rest) more ∙ ap (λ (l : List ℕ). first ++ l) (take-append-le more part rest less) in
    let there : place + count + more ≡ place + (count + more) = omega arith in
    was ∙ ap (λ (l : List ℕ). first ++ l) given ∙ sym (append_assoc first next last) ∙ ap (λ (l : List ℕ). l ++ last) (sym front)
    ∙ ap (λ (n : ℕ). take (count + more) here ++ drop n text) there

pub filled_in : (known now : Option (List ℕ)) (piece part : List ℕ) (place count more room : ℕ) → count ≤ length piece → more ≤ length part → now ≡ known
    → IfSome known (λ text. drop place text ≡ take count piece ++ drop (place + count) text) → GaveBy now (place + count) more part
    → IfSome known (λ text. drop place text ≡ take (count + more) (put_mid count room piece part) ++ drop (place + (count + more)) text)
filled_in None now piece part place count more room within less same was gave = tt
filled_in (Some text) now piece part place count more room within less same was gave =
    filled_more text piece part place count more room within less was
    (subst (λ (o : Option (List ℕ)). GaveBy o (place + count) more part) same gave).given

-- What a search for a cut has shown so far.
use Rattle.file_parts.proofs.Common.{arith, ◌≡◌, ◌+◌, ◌-◌, ◌<◌, ◌≤◌, ℕ, ap, sym, subst, ◌∙◌, List, length, take, Option, IfSome, Allowed, Framing}
use Rattle.std.proofs.Common.{suc, ◌++◌, drop, get_or, min, false, Bool, inl, inr, Some, None}
use Rattle.std.specs.Option.{SomeIff}
use Rattle.std.proofs.lemmas.Bool.{cases_lt, cases_eq, false≢true}
use Rattle.std.proofs.lemmas.List.{get_or-drop, length-take-le}
use Rattle.std.proofs.Math.ListN.{get_or-append}
use Rattle.gj_join.specs.Parts.{separates, may_begin}
use Rattle.geolint_report.specs.Every.{GaveBy}
use Rattle.file_parts.specs.Cuts.{NoneMayBeCut, IsFirstCut}
use Rattle.file_parts.specs.Internal.Begins.{follows_at, IsBegin, NoneBegins, IsFirstBegin, AreSearchedTo}
use Rattle.file_parts.proofs.CutPlaces.{cut_at, cut_of, none_more}

-- ---- one byte of a piece

pub no_begin : (framing : Framing) (follows : Bool) (piece : List ℕ) (i : ℕ) → NoneBegins framing follows piece i
    → (IsBegin framing follows piece i → ⊥) → NoneBegins framing follows piece (i + 1)
no_begin framing follows piece i none here = λ place below begin. elim (cases_eq place i) [
  | inl e ↦ here (subst (λ (n : ℕ). IsBegin framing follows piece n) e begin)
  | inr e ↦ none place (omega (arith, below, e)) begin
]

pub follows_next : (framing : Framing) (follows : Bool) (piece : List ℕ) (i : ℕ)
    → separates framing (get_or piece i 0) ≡ follows_at framing follows piece (i + 1)
follows_next framing follows piece i =
    let next : suc i ≡ i + 1 = omega arith in
    ap (λ (n : ℕ). follows_at framing follows piece n) next

pub no_begin_by : (framing : Framing) (follows was is : Bool) (piece : List ℕ) (i : ℕ) → NoneBegins framing follows piece i
    → was ≡ follows_at framing follows piece i
    → is ≡ separates framing (get_or piece i 0)
    → may_begin framing was is ≡ false → NoneBegins framing follows piece (i + 1)
no_begin_by framing follows was is piece i none before here stays = no_begin framing follows piece i none
    (λ begin. false≢true (sym stays
    ∙ (ap (λ (b : Bool). may_begin framing b is) before ∙ (ap (may_begin framing (follows_at framing follows piece i)) here ∙ begin.begins))))

-- ---- the text

last_of : (place : ℕ) → 0 < place → place ≡ suc (place - 1)
last_of place some = omega (arith, some)

-- the bytes after so many more than one
drop_of : (text : List ℕ) (place : ℕ) (read rest : List ℕ) → 0 < place → drop place text ≡ read ++ rest → drop (suc (place - 1)) text ≡ read ++ rest
drop_of text place read rest some given = subst (λ (n : ℕ). drop n text ≡ read ++ rest) (last_of place some) given

none_to : (framing : Framing) (limits : Allowed) (text : List ℕ) (from place : ℕ) → 0 < place → NoneMayBeCut framing limits text from place
    → NoneMayBeCut framing limits text from (suc (place - 1))
none_to framing limits text from place some none = subst (λ (n : ℕ). NoneMayBeCut framing limits text from n) (last_of place some) none

-- no cut is beyond the limit, or beyond the end
pub none_until : (framing : Framing) (limits : Allowed) (text : List ℕ) (from place until : ℕ) → 0 < from → min until limits.bytes ≤ place
    → NoneMayBeCut framing limits text from place
    → NoneMayBeCut framing limits text from until
none_until framing limits text from place until some reached none = λ other after below cut.
    let bytes = cut_at framing limits text other (omega (arith, some, after)) cut in
    none other after (omega (arith, bytes.allowed, below, reached, some, after)) cut

-- ---- where the source tells its bytes

pub search_more : (known : Option (List ℕ)) (framing : Framing) (limits : Allowed) (from place count : ℕ) (piece : List ℕ) (follows now : Bool) → 0 < place
    → GaveBy known place count piece
    → 0 < count → count ≤ length piece → NoneBegins framing follows (take count piece) (length (take count piece))
    → now ≡ separates framing (get_or (take count piece) (count - 1) 0)
    → AreSearchedTo known framing limits from place follows → AreSearchedTo known framing limits from (place + count) now
search_more None framing limits from place count piece follows now some gave came within none is so_far = tt
search_more (Some text) framing limits from place count piece follows now some gave came within none is so_far =
    let read = take count piece in
    let rest = drop (place + count) text in
    let long : length read ≡ count = length-take-le count piece within in
    let last : get_or text (place + count - 1) 0 ≡ get_or read (count - 1) 0 =
    ap (λ (n : ℕ). get_or text n 0) (omega (arith, came))
    ∙ (sym (get_or-drop place text (count - 1) 0)
    ∙ (ap (λ (l : List ℕ). get_or l (count - 1) 0) gave.given ∙ get_or-append read rest 0 (count - 1) (omega (arith, came, long)))) in (
      is ∙ ap (separates framing) (sym last),
      none_more framing limits text read rest (place - 1) from (length read) (place + count) follows (drop_of text place read rest some gave.given) so_far.0
          (omega arith) none (none_to framing limits text from place some so_far.1) (omega (arith, long, some)),
    )

first_found : (framing : Framing) (limits : Allowed) (text read rest : List ℕ) (from place until index : ℕ) (follows : Bool) (found : Option ℕ)
    → 0 < from → from ≤ place
    → drop place text ≡ read ++ rest → follows ≡ separates framing (get_or text (place - 1) 0) → NoneMayBeCut framing limits text from place
    → IsFirstBegin framing follows read (Some index)
    → SomeIff found (place + index < min until limits.bytes) (place + index) → IsFirstCut framing limits text from until found
first_found framing limits text read rest from place until index follows None some after given was none (begin, first) is =
    let reached : min until limits.bytes ≤ place + index = elim (cases_lt (place + index) (min until limits.bytes)) [
      | inl e ↦ absurd (is e)
      | inr e ↦ e
    ] in
    let within : index < length read = begin.within in
    let some_place : 0 < place = omega (arith, some, after) in
    none_until framing limits text from (place + index) until some reached
    (none_more framing limits text read rest (place - 1) from index (place + index) follows (drop_of text place read rest some_place given) was
    (omega (arith, within)) first (none_to framing limits text from place some_place none) (omega (arith, some_place)))
first_found framing limits text read rest from place until index follows (Some cut) some after given was none (begin, first) (below, at) =
    let within : index < length read = begin.within in
    let some_place : 0 < place = omega (arith, some, after) in
    let there = drop_of text place read rest some_place given in (
      omega (arith, at, after),
      omega (arith, at, below),
      cut_of framing limits text read rest (place - 1) index cut follows there was begin (omega (arith, at, some_place)) (omega (arith, at, below)),
      none_more framing limits text read rest (place - 1) from index cut follows there was (omega (arith, within)) first
          (none_to framing limits text from place some_place none) (omega (arith, at, some_place)),
    )

pub search_found : (known : Option (List ℕ)) (framing : Framing) (limits : Allowed) (from place count until index : ℕ) (piece : List ℕ)
    (follows : Bool) (found : Option ℕ)
    → 0 < from → from ≤ place
    → GaveBy known place count piece → IsFirstBegin framing follows (take count piece) (Some index)
    → SomeIff found (place + index < min until limits.bytes) (place + index)
    → AreSearchedTo known framing limits from place follows → IfSome known (λ text. IsFirstCut framing limits text from until found)
search_found None framing limits from place count until index piece follows found some after gave first is so_far = tt
search_found (Some text) framing limits from place count until index piece follows found some after gave first is so_far =
    first_found framing limits text (take count piece) (drop (place + count) text) from place until index follows found some after gave.given so_far.0 so_far.1
    first is

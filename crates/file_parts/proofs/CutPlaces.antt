-- Where an input of records may be cut, byte by byte.
use Rattle.file_parts.proofs.Common.{arith, ◌≡◌, ◌+◌, ◌-◌, ◌<◌, ◌≤◌, ℕ, refl, ap, sym, subst, ◌∙◌, List, length, take, Allowed, Framing}
use Rattle.std.proofs.Common.{suc, zero, [], ◌∷◌, ◌++◌, drop, get_or, true, Bool, inl, inr, length-append, length-drop}
use Rattle.std.proofs.lemmas.Bool.{cases_lt}
use Rattle.std.proofs.lemmas.List.{length-take-le}
use Rattle.std.proofs.lemmas.List.Prefix.{at_reads}
use Rattle.gj_join.specs.Parts.{separates, separator_first, separator_last, may_begin}
use Rattle.file_parts.specs.Cuts.{MayBeCut, NoneMayBeCut}
use Rattle.file_parts.specs.Internal.Begins.{follows_at, IsBegin, NoneBegins}

begins_at : (framing : Framing) (k : ℕ) (text : List ℕ) → k < length text → separator_first framing (drop k text) ≡ separates framing (get_or text k 0)
begins_at framing k [] within = absurd (omega (arith, within))
begins_at framing zero (byte ∷ more) within = refl
begins_at framing (suc k) (byte ∷ more) within = begins_at framing k more (omega (arith, within))

ends_at : (framing : Framing) (k : ℕ) (text : List ℕ) → k < length text → separator_last framing (take (suc k) text) ≡ separates framing (get_or text k 0)
ends_at framing k [] within = absurd (omega (arith, within))
ends_at framing zero (byte ∷ more) within = refl
ends_at framing (suc k) (byte ∷ []) within = absurd (omega (arith, within))
ends_at framing (suc k) (byte ∷ next ∷ more) within = ends_at framing k (next ∷ more) (omega (arith, within))

-- a cut after the byte at this place
pub record IsCutAfter (framing : Framing) (limits : Allowed) (text : List ℕ) (last : ℕ) : Type 0 where
  pub within : suc last < length text
  pub begins : may_begin framing (separates framing (get_or text last 0)) (separates framing (get_or text (suc last) 0)) ≡ true
  pub allowed : suc last < limits.bytes

-- what stands around a place is what the two parts show
around : (framing : Framing) (text : List ℕ) (last : ℕ) → suc last < length text
    → may_begin framing (separator_last framing (take (suc last) text)) (separator_first framing (drop (suc last) text))
    ≡ may_begin framing (separates framing (get_or text last 0)) (separates framing (get_or text (suc last) 0))
around framing text last within =
    ap (λ (b : Bool). may_begin framing b (separator_first framing (drop (suc last) text))) (ends_at framing last text (omega (arith, within)))
    ∙ ap (λ (b : Bool). may_begin framing (separates framing (get_or text last 0)) b) (begins_at framing (suc last) text within)

cut_after : (framing : Framing) (limits : Allowed) (text : List ℕ) (last : ℕ) → MayBeCut framing limits text (suc last) → IsCutAfter framing limits text last
cut_after framing limits text last cut =
    let within : suc last < length text = cut.within in
    let long : length (take (suc last) text) ≡ suc last = length-take-le (suc last) text (omega (arith, within)) in
    record { within = within; begins = sym (around framing text last within) ∙ cut.parts.cut; allowed = omega (arith, cut.parts.within, long) }

pub cut_at : (framing : Framing) (limits : Allowed) (text : List ℕ) (place : ℕ) → 0 < place → MayBeCut framing limits text place
    → IsCutAfter framing limits text (place - 1)
cut_at framing limits text place some cut =
    let after : place ≡ suc (place - 1) = omega (arith, some) in
    cut_after framing limits text (place - 1) (subst (λ (n : ℕ). MayBeCut framing limits text n) after cut)

may_be_cut : (framing : Framing) (limits : Allowed) (text : List ℕ) (last : ℕ) → IsCutAfter framing limits text last → MayBeCut framing limits text (suc last)
may_be_cut framing limits text last cut =
    let within : suc last < length text = cut.within in
    let long : length (take (suc last) text) ≡ suc last = length-take-le (suc last) text (omega (arith, within)) in
    record { within = within; parts = record { cut = around framing text last within ∙ cut.begins; within = omega (arith, cut.allowed, long) } }

-- ---- what a piece shows

separates_at : (framing : Framing) (text read rest : List ℕ) (last j at : ℕ) → drop (suc last) text ≡ read ++ rest → j < length read → at ≡ suc last + j
    → separates framing (get_or text at 0) ≡ separates framing (get_or read j 0)
separates_at framing text read rest last j at given within there =
    ap (λ (n : ℕ). separates framing (get_or text n 0)) there ∙ ap (separates framing) (at_reads 0 text read (suc last) rest given j within)

before_of : (framing : Framing) (text read rest : List ℕ) (last j : ℕ) (follows : Bool) → drop (suc last) text ≡ read ++ rest
    → follows ≡ separates framing (get_or text last 0)
    → j < length read → separates framing (get_or text (last + j) 0) ≡ follows_at framing follows read j
before_of framing text read rest last zero follows given was within =
    ap (λ (n : ℕ). separates framing (get_or text n 0)) (omega arith) ∙ sym was
before_of framing text read rest last (suc i) follows given was within =
    separates_at framing text read rest last i (last + suc i) given (omega (arith, within)) (omega arith)

-- a part may begin at a byte of the piece exactly where it may in the text
same_begin : (framing : Framing) (text read rest : List ℕ) (last j : ℕ) (follows : Bool) → drop (suc last) text ≡ read ++ rest
    → follows ≡ separates framing (get_or text last 0)
    → j < length read
    → may_begin framing (separates framing (get_or text (last + j) 0)) (separates framing (get_or text (suc (last + j)) 0))
    ≡ may_begin framing (follows_at framing follows read j) (separates framing (get_or read j 0))
same_begin framing text read rest last j follows given was within =
    ap (λ (b : Bool). may_begin framing b (separates framing (get_or text (suc (last + j)) 0)))
    (before_of framing text read rest last j follows given was within)
    ∙ ap (λ (b : Bool). may_begin framing (follows_at framing follows read j) b)
    (separates_at framing text read rest last j (suc (last + j)) given within (omega arith))

begin_of : (framing : Framing) (limits : Allowed) (text read rest : List ℕ) (last j : ℕ) (follows : Bool) → drop (suc last) text ≡ read ++ rest
    → follows ≡ separates framing (get_or text last 0)
    → j < length read → MayBeCut framing limits text (suc (last + j)) → IsBegin framing follows read j
begin_of framing limits text read rest last j follows given was within cut = record {
  within = within;
  begins = sym (same_begin framing text read rest last j follows given was within) ∙ (cut_after framing limits text (last + j) cut).begins;
}

pub cut_of : (framing : Framing) (limits : Allowed) (text read rest : List ℕ) (last j place : ℕ) (follows : Bool) → drop (suc last) text ≡ read ++ rest
    → follows ≡ separates framing (get_or text last 0)
    → IsBegin framing follows read j → place ≡ suc last + j → place < limits.bytes → MayBeCut framing limits text place
cut_of framing limits text read rest last j place follows given was begin there allowed =
    let at : suc (last + j) ≡ place = omega (arith, there) in
    let inside : j < length read = begin.within in
    let left : length (drop (suc last) text) ≡ length text - suc last = length-drop (suc last) text in
    let long : length (drop (suc last) text) ≡ length read + length rest = ap length given ∙ length-append read rest in
    let bytes : IsCutAfter framing limits text (last + j) = record {
      within = omega (arith, inside, left, long);
      begins = same_begin framing text read rest last j follows given was inside ∙ begin.begins;
      allowed = omega (arith, at, allowed);
    } in
    subst (λ (n : ℕ). MayBeCut framing limits text n) at (may_be_cut framing limits text (last + j) bytes)

pub none_more : (framing : Framing) (limits : Allowed) (text read rest : List ℕ) (last from count until : ℕ) (follows : Bool)
    → drop (suc last) text ≡ read ++ rest
    → follows ≡ separates framing (get_or text last 0)
    → count ≤ length read → NoneBegins framing follows read count → NoneMayBeCut framing limits text from (suc last) → until ≡ suc last + count
    → NoneMayBeCut framing limits text from until
none_more framing limits text read rest last from count until follows given was within none before there = λ place from_there below cut.
    elim (cases_lt place (suc last)) [
      | inl earlier ↦ before place from_there earlier cut
      | inr here ↦
          let j = place - suc last in
          let at : place ≡ suc (last + j) = omega (arith, here) in
          let less : j < count = omega (arith, here, below, there) in
          none j less
          (begin_of framing limits text read rest last j follows given was (omega (arith, less, within))
          (subst (λ (n : ℕ). MayBeCut framing limits text n) at cut))
    ]

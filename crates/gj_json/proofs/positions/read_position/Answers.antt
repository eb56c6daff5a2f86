-- The array, by the bytes of its separators.
use Rattle.gj_json.proofs.Common.{AllByRecursion, Bool, CutPosition, Flat, IsValued, IsWhite, List, Numbered, SFits, ap, arith, bool_byte, cut, drop, false}
use Rattle.gj_json.proofs.Common.{get_or, get_or-drop, inl, inr, length, open_bracket, refl, rules, subst, sym, true, w64, ℕ, ◌+◌, ◌-◌, ◌<◌, ◌∙◌, ◌≡◌, ◌≤◌}
use Rattle.std.proofs.Common.{IsTrue, length-drop, take}
use Rattle.std.specs.Option.{option_map_or}
use Rattle.std.proofs.lemmas.Bool.{cases_lt}
use Rattle.std.proofs.lemmas.List.{take_all}
use Rattle.gj_number.specs.Bytes.{IsNumberByte, minus_sign}
use Rattle.gj_number.specs.Cuts.{HasCut, IsCut, IsSpan}
use Rattle.gj_number.specs.Internal.DigitRuns.{StartsSigned}
use Rattle.gj_number.specs.declared.short.cuts.Cut.{Cut}
use Rattle.gj_number.specs.declared.short.cuts.Span.{Span}
use Rattle.gj_json.specs.Bytes.{comma, close_bracket}
use Rattle.gj_json.specs.Internal.SpelledPositions.{gap_of, room_of, AreSeparators, ClosesAt, EndsAt, HasHead, SpellsPosition}
use Rattle.gj_json.specs.declared.separators.Separators.{Separators}
use Rattle.gj_json.proofs.Grammar.SeparatedArrays.{byte_in, cut_in, no_number, signed_at, white_low}
use Rattle.gj_json.proofs.Grammar.SpelledArrays.{of_value, array_spelled}
use Rattle.gj_json.proofs.Grammar.SpelledPairs.{valued_cut}
use Rattle.gj_json.proofs.Pieces.PieceCuts.{cut_byte}
use Rattle.gj_json.proofs.positions.read_position.Goals as goal

-- where the digits of a number end
span_end : (piece : List ℕ) (span : Span) → IsSpan piece span → (span.first < span.end) × (span.end ≤ span.first + 19)
span_end piece span s =
    let some = s.some in
    let few = s.few in
    let few_after = s.few_after in
    elim s.shape [ inl p ↦ (let e = p.1 in (omega arith, omega arith)) | inr p ↦ (let e = p.2 in (omega arith, omega arith)) ]

-- a number at an index
valued_at : (piece : List ℕ) (at end : ℕ) (cut_value : Cut) (h : HasCut piece at end cut_value) → at ≤ end → IsValued h.short (cut piece at end)
valued_at piece at end cut_value h on =
    let P : ℕ → Type 0 = λ n. IsValued h.short (cut piece at n) in
    subst P {x = at + (end - at)} {y = end} (omega arith) (valued_cut piece at (end - at) h.short h.starts)

-- no number has the byte before a closing bracket, with white space between them or none
no_number_before : (piece : List ℕ) (at close : ℕ) → at ≤ close → close < length piece → AllByRecursion IsWhite (cut piece at close)
    → get_or piece close 0 ≡ close_bracket → IsNumberByte (get_or piece at 0) → ⊥
no_number_before piece at close on within white bracket n = elim (cases_lt at close) [
  | inl l ↦
      let P : List ℕ → Type 0 = λ xs. AllByRecursion IsWhite xs in
      let w = subst P (cut_byte piece at close (omega arith) l) white in
      (no_number (get_or piece at 0) n).0 (white_low (get_or piece at 0) w.0)
  | inr m ↦ (no_number (get_or piece at 0) n).2 (ap (λ k. get_or piece k 0) {x = at} {y = close} (omega arith) ∙ bracket)
]

-- what is told of a position, by the bytes of its separators
module _ (piece : List ℕ) (start : ℕ) (s : Separators) (are : AreSeparators s) (has_head : HasHead s piece) (room : room_of s ≤ length piece)
    (one other : Span) (one_is : IsSpan piece one) (other_is : IsSpan piece other) (first_is : one.first ≡ length s.outer.head.now)
    (inner_there : cut piece one.end (one.end + length s.inner.separator.bytes.now) ≡ s.inner.separator.bytes.now)
    (second_is : other.first ≡ one.end + length s.inner.separator.bytes.now) (last : ℕ) (ends : EndsAt piece other.end last)
    (near : last ≤ other.end + option_map_or (λ third. length third.separator.bytes.now) s.third 0 + 32)
    (outer_there : cut piece last (last + length s.outer.separator.bytes.now) ≡ s.outer.separator.bytes.now) where
  abbrev head_bytes : List ℕ
  head_bytes = s.outer.head.now

  abbrev inner_bytes : List ℕ
  inner_bytes = s.inner.separator.bytes.now

  abbrev outer_bytes : List ℕ
  outer_bytes = s.outer.separator.bytes.now

  abbrev first_at : ℕ
  first_at = length head_bytes - bool_byte s.outer.negative

  abbrev second_at : ℕ
  second_at = other.first - bool_byte s.inner.negative

  abbrev close : ℕ
  close = last + s.outer.close

  one_end : (one.first < one.end) × (one.end ≤ one.first + 19)
  one_end = span_end piece one one_is

  other_end : (other.first < other.end) × (other.end ≤ other.first + 19)
  other_end = span_end piece other other_is

  head_long : length head_bytes + s.outer.open ≡ length outer_bytes
  head_long =
      let o = are.outer in
      let r = o.room in
      omega (arith, ap length o.head, length-drop s.outer.open outer_bytes)

  head_room : 1 + bool_byte s.outer.negative ≤ length head_bytes
  head_room = let r = are.outer.room in let l = head_long in omega arith

  head_there : cut piece 0 (0 + length head_bytes) ≡ head_bytes
  head_there = ap (λ n. cut piece 0 n) {x = 0 + length head_bytes} {y = length head_bytes} (omega arith) ∙ has_head

  head_byte : (i : ℕ) → i < length head_bytes → get_or piece i 0 ≡ get_or head_bytes i 0
  head_byte i within = ap (λ k. get_or piece k 0) {x = i} {y = 0 + i} (omega arith) ∙ byte_in piece head_bytes 0 head_there i within

  head_cut : (i j : ℕ) → i ≤ j → j ≤ length head_bytes → cut piece i j ≡ cut head_bytes i j
  head_cut i j order within =
      ap (λ k. cut piece k j) {x = i} {y = 0 + i} (omega arith) ∙ ap (λ k. cut piece (0 + i) k) {x = j} {y = 0 + j} (omega arith)
      ∙ cut_in piece head_bytes 0 head_there i j order within

  pub opens : get_or piece 0 0 ≡ open_bracket
  opens = let r = head_room in head_byte 0 (omega arith) ∙ are.outer.opens

  pub white_one : AllByRecursion IsWhite (cut piece 1 first_at)
  white_one =
      let r = head_room in
      let P : List ℕ → Type 0 = λ xs. AllByRecursion IsWhite xs in
      subst P (sym (head_cut 1 first_at (omega arith) (omega arith))) are.outer.white

  pub sign_one : StartsSigned (drop first_at piece) s.outer.negative
  sign_one =
      let r = head_room in
      signed_at piece one first_at s.outer.negative one_is (omega (arith, first_is))
      (λ minus. go s.outer.negative minus (are.outer.sign minus) r)
    where
      go : (negative : Bool) → IsTrue negative → get_or head_bytes (length head_bytes - 1) 0 ≡ minus_sign → 1 + bool_byte negative ≤ length head_bytes
          → get_or piece (length head_bytes - bool_byte negative) 0 ≡ minus_sign
      go true minus e r = head_byte (length head_bytes - 1) (omega arith) ∙ e
      go false minus e r = (cc)

  pub comma_there : get_or piece one.end 0 ≡ comma
  comma_there =
      let r = are.inner.room in
      ap (λ k. get_or piece k 0) {x = one.end} {y = one.end + 0} (omega arith) ∙ byte_in piece inner_bytes one.end inner_there 0 (omega arith) ∙ are.inner.comma

  pub white_two : AllByRecursion IsWhite (cut piece (one.end + 1) second_at)
  white_two =
      let r = are.inner.room in
      let P : List ℕ → Type 0 = λ xs. AllByRecursion IsWhite xs in
      let e : cut piece (one.end + 1) second_at ≡ cut inner_bytes 1 (length inner_bytes - bool_byte s.inner.negative) =
      ap (λ k. cut piece (one.end + 1) k) {x = second_at} {y = one.end + (length inner_bytes - bool_byte s.inner.negative)} (omega (arith, second_is))
      ∙ cut_in piece inner_bytes one.end inner_there 1 (length inner_bytes - bool_byte s.inner.negative) (omega arith) (omega arith) in
      subst P (sym e) are.inner.white

  pub sign_two : StartsSigned (drop second_at piece) s.inner.negative
  sign_two =
      let r = are.inner.room in
      signed_at piece other second_at s.inner.negative other_is (omega (arith, second_is))
      (λ minus. go s.inner.negative minus (are.inner.sign minus) r)
    where
      go : (negative : Bool) → IsTrue negative → get_or inner_bytes (length inner_bytes - 1) 0 ≡ minus_sign → 1 + bool_byte negative ≤ length inner_bytes
          → get_or piece (other.first - bool_byte negative) 0 ≡ minus_sign
      go true minus e r =
          ap (λ k. get_or piece k 0) {x = other.first - 1} {y = one.end + (length inner_bytes - 1)} (omega (arith, second_is))
          ∙ byte_in piece inner_bytes one.end inner_there (length inner_bytes - 1) (omega arith) ∙ e
      go false minus e r = (cc)

  outer_byte : (i : ℕ) → i < length outer_bytes → get_or piece (last + i) 0 ≡ get_or outer_bytes i 0
  outer_byte i within = byte_in piece outer_bytes last outer_there i within

  pub within_all : last + length outer_bytes ≤ length piece
  within_all =
      let o = are.outer in
      let r = o.room in
      let on = o.on in
      let a = one_end in
      let b = other_end in
      omega (arith, first_is, second_is, near, room)

  pub white_close : AllByRecursion IsWhite (cut piece last close)
  white_close =
      let o = are.outer in
      let r = o.room in
      let on = o.on in
      let P : List ℕ → Type 0 = λ xs. AllByRecursion IsWhite xs in
      let e : cut piece last close ≡ cut outer_bytes 0 s.outer.close =
      ap (λ k. cut piece k close) {x = last} {y = last + 0} (omega arith)
      ∙ cut_in piece outer_bytes last outer_there 0 s.outer.close (omega arith) (omega arith) in
      subst P (sym e) o.before

  pub bracket_there : get_or piece close 0 ≡ close_bracket
  bracket_there = let o = are.outer in let r = o.room in let on = o.on in outer_byte s.outer.close (omega arith) ∙ o.bracket

  pub closes : ClosesAt piece start other.end close
  closes = let w = within_all in let on = are.outer.on in let r = are.outer.room in ends.closes start close (omega arith) (omega arith) white_close bracket_there

  pub next_comma : get_or piece (close + 1) 0 ≡ comma
  next_comma =
      let o = are.outer in
      let r = o.room in
      let on = o.on in
      ap (λ k. get_or piece k 0) {x = close + 1} {y = last + (s.outer.close + 1)} (omega arith) ∙ outer_byte (s.outer.close + 1) (omega arith) ∙ o.comma

  pub next_white : AllByRecursion IsWhite (cut piece (close + 1 + 1) (close + 1 + 1 + gap_of s))
  next_white =
      let o = are.outer in
      let r = o.room in
      let on = o.on in
      let P : List ℕ → Type 0 = λ xs. AllByRecursion IsWhite xs in
      let e : cut piece (close + 1 + 1) (close + 1 + 1 + gap_of s) ≡ cut outer_bytes (s.outer.close + 2) s.outer.open =
      ap (λ k. cut piece k (close + 1 + 1 + gap_of s)) {x = close + 1 + 1} {y = last + (s.outer.close + 2)} (omega arith)
      ∙ ap (λ k. cut piece (last + (s.outer.close + 2)) k) {x = close + 1 + 1 + gap_of s} {y = last + s.outer.open} (omega arith)
      ∙ cut_in piece outer_bytes last outer_there (s.outer.close + 2) s.outer.open on (omega arith) in
      subst P (sym e) o.between

  next_byte : (i : ℕ) → i < length head_bytes → get_or piece (last + s.outer.open + i) 0 ≡ get_or head_bytes i 0
  next_byte i within =
      let l = head_long in
      ap (λ k. get_or piece k 0) {x = last + s.outer.open + i} {y = last + (s.outer.open + i)} (omega arith) ∙ outer_byte (s.outer.open + i) (omega arith)
      ∙ sym (ap (λ xs. get_or xs i 0) are.outer.head ∙ get_or-drop s.outer.open outer_bytes i 0)

  pub next_opens : get_or piece (close + 1 + 1 + gap_of s) 0 ≡ open_bracket
  next_opens =
      let r = head_room in
      let on = are.outer.on in
      ap (λ k. get_or piece k 0) {x = close + 1 + 1 + gap_of s} {y = last + s.outer.open + 0} (omega arith) ∙ next_byte 0 (omega arith) ∙ are.outer.opens

  pub next_head : HasHead s (drop (close + 2 + gap_of s) piece)
  next_head =
      let l = head_long in
      let on = are.outer.on in
      let at : close + 2 + gap_of s ≡ last + s.outer.open = omega arith in
      let here : cut piece (last + s.outer.open) (last + length outer_bytes) ≡ cut outer_bytes s.outer.open (length outer_bytes) =
      cut_in piece outer_bytes last outer_there s.outer.open (length outer_bytes) (omega arith) (omega arith) in
      let all : cut outer_bytes s.outer.open (length outer_bytes) ≡ drop s.outer.open outer_bytes =
      take_all (length outer_bytes - s.outer.open) (drop s.outer.open outer_bytes) (omega (arith, length-drop s.outer.open outer_bytes)) in
      ap (λ k. take (length head_bytes - 0) (drop k piece)) at
      ∙ ap (λ n. take n (drop (last + s.outer.open) piece)) {x = length head_bytes - 0} {y = last + length outer_bytes - (last + s.outer.open)} (omega arith)
      ∙ here ∙ all ∙ sym are.outer.head

  pub after_one : IsNumberByte (get_or piece one.end 0) → ⊥
  after_one n = (no_number (get_or piece one.end 0) n).1 comma_there

  pub after_two : IsNumberByte (get_or piece other.end 0) → ⊥
  after_two n = elim ends.after [
    | inl e ↦
        let w = within_all in
        let on = are.outer.on in
        let r = are.outer.room in
        let P : ℕ → Type 0 = λ k. IsNumberByte (get_or piece k 0) in
        no_number_before piece last close (omega arith) (omega arith) white_close bracket_there (subst P (sym e) n)
    | inr e ↦ (no_number (get_or piece other.end 0) n).1 e
  ]

  module _ (p : CutPosition) (a b : Cut) (first : HasCut piece first_at one.end a) (second : HasCut piece second_at other.end b)
      (first_cut : IsCut first.short (record { value = p.first; precise = p.first_precise }))
      (second_cut : IsCut second.short (record { value = p.second; precise = p.second_precise })) (place_is : p.place ≡ start)
      (first_at_is : p.first_at ≡ first_at) (second_at_is : p.second_at ≡ second_at) (close_is : p.close_at ≡ close) where
    pub position_spelled : SpellsPosition (gap_of s) p start piece
    position_spelled =
        let r = head_room in
        let i = are.inner.room in
        let x = one_end in
        let y = other_end in
        let w = within_all in
        let on = ends.on in
        let o = are.outer.on in
        let l = are.outer.room in
        let one_number : Numbered = record { value = first.short; place = start + first_at } in
        let other_number : Numbered = record { value = second.short; place = start + second_at } in
        let closing = closes in
        let flat : Flat = record {
          first = one_number;
          second = other_number;
          third = closing.third;
          place = start;
          close = start + close;
          first_on = omega arith;
          second_on = omega arith;
          third_on = closing.place;
        } in
        record {
          flat = flat;
          count = close + 1;
          is = record {
            place = sym place_is;
            first_place = omega arith;
            after = omega (arith, first_is);
            second_place = omega arith;
            close = omega arith;
            third = closing.few;
            first = first_cut;
            second = second_cut;
          };
          at = place_is;
          spelled = array_spelled piece start one_number other_number first_at one.end second_at other.end close closing opens (omega arith) refl (omega arith)
              white_one (omega (arith, first_is)) (valued_at piece first_at one.end a first (omega (arith, first_is))) comma_there refl
              (omega (arith, second_is)) white_two (omega arith) (valued_at piece second_at other.end b second (omega arith));
          close = omega arith;
          within = omega arith;
          comma = next_comma;
          white = next_white;
          bracket = next_opens;
        }

-- ---- the goals

record Found (piece : List ℕ) (s : Separators) (one other : Span) (last : ℕ) : Type 0 where
  room : room_of s ≤ length piece
  first_is : one.first ≡ length s.outer.head.now
  inner_there : cut piece one.end (one.end + length s.inner.separator.bytes.now) ≡ s.inner.separator.bytes.now
  second_is : other.first ≡ one.end + length s.inner.separator.bytes.now
  ends : EndsAt piece other.end last
  near : last ≤ other.end + option_map_or (λ third. length third.separator.bytes.now) s.third 0 + 32
  outer_there : cut piece last (last + length s.outer.separator.bytes.now) ≡ s.outer.separator.bytes.now

pub returns-clause-spelled : goal.returns-clause-spelled
returns-clause-spelled g c =
    let piece = c.args.piece.now in
    let s = c.args.separators.now in
    let one = c.in_ok-one.one in
    let other = c.in_ok-other.other in
    let last = c.in_ok-last.last in
    let P : ℕ → Type 0 = λ n. cut piece n (n + length s.inner.separator.bytes.now) ≡ s.inner.separator.bytes.now in
    let Q : ℕ → Type 0 = λ n. EndsAt piece n last in
    let f : Found piece s one other last = record {
      room = omega (arith, c.room_of.ensures, c.if-piece-room_of.false);
      first_is = c.in_ok-one.ensures.first;
      inner_there = subst P c.end.ensures (c.stands.ensures c.if-not-stands.false);
      second_is = omega (arith, c.in_ok-other.ensures.first, c.end-2.ensures, c.count.ensures);
      ends = subst Q c.end-3.ensures c.in_ok-last.ensures.ends;
      near = omega (arith, c.in_ok-last.ensures.near, c.end-3.ensures);
      outer_there = c.stands-2.ensures c.if-not-stands-2.false;
    } in
    let told = c.in_ok-one-2.ensures in
    let r = head_room piece c.args.start s c.requires.separators c.requires.head f.room one other c.in_ok-one.ensures.span c.in_ok-other.ensures.span
    f.first_is f.inner_there f.second_is last f.ends f.near f.outer_there in
    let i = c.requires.separators.inner.room in
    let first = told.first (length s.outer.head.now - bool_byte s.outer.negative)
    (sign_one piece c.args.start s c.requires.separators c.requires.head f.room one other c.in_ok-one.ensures.span c.in_ok-other.ensures.span
    f.first_is f.inner_there f.second_is last f.ends f.near f.outer_there) (omega (arith, f.first_is, r))
    (after_one piece c.args.start s c.requires.separators c.requires.head f.room one other c.in_ok-one.ensures.span c.in_ok-other.ensures.span
    f.first_is f.inner_there f.second_is last f.ends f.near f.outer_there) in
    let second = told.second (other.first - bool_byte s.inner.negative)
    (sign_two piece c.args.start s c.requires.separators c.requires.head f.room one other c.in_ok-one.ensures.span c.in_ok-other.ensures.span
    f.first_is f.inner_there f.second_is last f.ends f.near f.outer_there) (omega (arith, f.second_is, i))
    (after_two piece c.args.start s c.requires.separators c.requires.head f.room one other c.in_ok-one.ensures.span c.in_ok-other.ensures.span
    f.first_is f.inner_there f.second_is last f.ends f.near f.outer_there) in
    let one_fits : SFits w64 c.in_ok-one-2.one.value = search rules in
    let other_fits : SFits w64 c.in_ok-one-2.two.value = search rules in
    position_spelled piece c.args.start s c.requires.separators c.requires.head f.room one other c.in_ok-one.ensures.span c.in_ok-other.ensures.span
    f.first_is f.inner_there f.second_is last f.ends f.near f.outer_there _ c.in_ok-one-2.one c.in_ok-one-2.two first second
    (of_value first.short c.in_ok-one-2.one one_fits first.is) (of_value second.short c.in_ok-one-2.two other_fits second.is) refl
    refl
    (omega (arith, f.second_is, c.end-2.ensures, c.count.ensures)) refl

pub returns-clause-next : goal.returns-clause-next
returns-clause-next g c =
    let piece = c.args.piece.now in
    let s = c.args.separators.now in
    let one = c.in_ok-one.one in
    let other = c.in_ok-other.other in
    let last = c.in_ok-last.last in
    let P : ℕ → Type 0 = λ n. cut piece n (n + length s.inner.separator.bytes.now) ≡ s.inner.separator.bytes.now in
    let Q : ℕ → Type 0 = λ n. EndsAt piece n last in
    next_head piece c.args.start s c.requires.separators c.requires.head (omega (arith, c.room_of.ensures, c.if-piece-room_of.false)) one other
    c.in_ok-one.ensures.span c.in_ok-other.ensures.span c.in_ok-one.ensures.first
    (subst P c.end.ensures (c.stands.ensures c.if-not-stands.false)) (omega (arith, c.in_ok-other.ensures.first, c.end-2.ensures, c.count.ensures)) last
    (subst Q c.end-3.ensures c.in_ok-last.ensures.ends) (omega (arith, c.in_ok-last.ensures.near, c.end-3.ensures))
    (c.stands-2.ensures c.if-not-stands-2.false)

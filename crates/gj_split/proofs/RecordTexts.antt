-- The text of a record, by the bytes at its place.
use Rattle.gj_split.proofs.Common.{AllByRecursion, Allowed, Bool, Framing, List, Ok, Option, Some, StandsAt, ap, arith, bytes_between, drop, false}
use Rattle.gj_split.proofs.Common.{if◌then◌else◌, inl, inr, length, line_feed, refl, separator, suc, sym, take, take-append-drop, true, ℕ, [], ◌++◌}
use Rattle.gj_split.proofs.Common.{◌+◌, ◌-◌, ◌∙◌, ◌∷◌, ◌≡◌, ◌≤◌, ◌⊎◌}
use Rattle.std.proofs.Common.{zero, get_or, nat_eq}
use Rattle.std.proofs.Common.{add-sub_of_le, length-append, drop-drop, take-add}
use Rattle.std.proofs.lemmas.Bool.{eqb-true}
use Rattle.std.proofs.lemmas.List.{append-nil}
use Rattle.std.proofs.Math.Seq.{take-append_seam}
use Rattle.gj_rules.specs.declared.records.framing.RecordEnd.{RecordEnd}
use Rattle.gj_rules.specs.declared.records.framing.RecordEnd.TheVariants.{Separator, Input, Limit}
use Rattle.gj_rules.specs.Records.{Part, part_at, separator_of, with_first, parts_from, parts_of, is_too_long, Entry, entry_at, entry_if, is_counted}
use Rattle.gj_rules.specs.Records.{number_after, entries_from, entries_of, first_number}
use Rattle.gj_rules.specs.Sequence.{last_byte}
use Rattle.gj_split.specs.Ranges.{ReadsFrom}
use Rattle.gj_split.specs.RecordSplit.{text_in}
use Rattle.gj_split.proofs.ReadParts.{part_read}

-- ---- the last byte

pub last_of_more : (b last : ℕ) (bytes : List ℕ) → last_byte b (bytes ++ last ∷ []) ≡ last
last_of_more b last [] = refl
last_of_more b last (c ∷ bytes) = last_of_more c last bytes

all_but_last : (last : ℕ) (bytes : List ℕ) → take (length (bytes ++ last ∷ []) - 1) (bytes ++ last ∷ []) ≡ bytes
all_but_last last bytes =
    let less : length (bytes ++ last ∷ []) - 1 ≡ length bytes = omega (arith, length-append bytes (last ∷ [])) in
    ap (λ n. take n (bytes ++ last ∷ [])) less ∙ take-append_seam bytes (last ∷ [])

-- by the last byte
pub text_in_more : (last : ℕ) (bytes : List ℕ) → text_in (bytes ++ last ∷ []) ≡ (if nat_eq last line_feed then bytes else bytes ++ last ∷ [])
text_in_more last bytes =
    ap (λ b. if nat_eq b line_feed then take (length (bytes ++ last ∷ []) - 1) (bytes ++ last ∷ []) else bytes ++ last ∷ []) (last_of_more separator last bytes)
    ∙ ap (λ xs. if nat_eq last line_feed then xs else bytes ++ last ∷ []) (all_but_last last bytes)

-- some bytes end with one
pub record IsMore (bytes : List ℕ) : Type 0 where
  pub before : List ℕ
  pub last : ℕ
  pub joined : bytes ≡ before ++ last ∷ []

pub none_or_more : (bytes : List ℕ) → (bytes ≡ []) ⊎ IsMore bytes
none_or_more [] = inl refl
none_or_more (b ∷ bytes) = by_rest (none_or_more bytes)
  where
    by_rest : (bytes ≡ []) ⊎ IsMore bytes → (b ∷ bytes ≡ []) ⊎ IsMore (b ∷ bytes)
    by_rest (inl e) = inr (record { before = []; last = b; joined = ap (λ xs. b ∷ xs) e })
    by_rest (inr h) = inr (record { before = b ∷ h.before; last = h.last; joined = ap (λ xs. b ∷ xs) h.joined })

-- the bytes are the text and LF, or the text alone
pub data HasText (bytes : List ℕ) : Type 0 where
  ended : bytes ≡ text_in bytes ++ line_feed ∷ [] → HasText bytes
  bare : bytes ≡ text_in bytes → HasText bytes

pub has_text : (bytes : List ℕ) → HasText bytes
has_text bytes = by_last (none_or_more bytes)
  where
    by_byte : (before : List ℕ) (last : ℕ) (t : Bool) → nat_eq last line_feed ≡ t → bytes ≡ before ++ last ∷ [] → HasText bytes
    by_byte before last true e j =
        let is : last ≡ line_feed = eqb-true last line_feed e in
        let text : text_in bytes ≡ before = ap text_in j ∙ (text_in_more last before ∙ ap (λ t. if t then before else before ++ last ∷ []) e) in
        ended (j ∙ (ap (λ b. before ++ b ∷ []) is ∙ ap (λ xs. xs ++ line_feed ∷ []) (sym text)))
    by_byte before last false e j =
        bare (j ∙ (sym (text_in_more last before ∙ ap (λ t. if t then before else before ++ last ∷ []) e) ∙ ap text_in (sym j)))

    by_last : (bytes ≡ []) ⊎ IsMore bytes → HasText bytes
    by_last (inl e) = bare (e ∙ ap text_in (sym e))
    by_last (inr h) = by_byte h.before h.last (nat_eq h.last line_feed) refl h.joined

-- ---- the end of a text, as it is read

-- up to a byte that stands there, and no further
one_more : (place last byte : ℕ) (bytes : List ℕ) → place ≤ last → StandsAt bytes last (byte ∷ [])
    → bytes_between place (last + 1) bytes ≡ bytes_between place last bytes ++ byte ∷ []
one_more place last byte bytes l h =
    ap (λ n. take n (drop place bytes)) (counted place last l)
    ∙ (take-add (last - place) 1 (drop place bytes)
    ∙ ap (λ xs. bytes_between place last bytes ++ xs)
    (ap (take 1) (drop-drop (last - place) place bytes ∙ ap (λ n. drop n bytes) (add-sub_of_le l)) ∙ sym h))
  where
    counted : (p a : ℕ) → p ≤ a → a + 1 - p ≡ a - p + 1
    counted p a l = omega (arith, l)

pub text_by_last : (place last end byte : ℕ) (bytes : List ℕ) → end ≡ last + 1 → place ≤ last → StandsAt bytes last (byte ∷ [])
    → text_in (bytes_between place end bytes) ≡ (if nat_eq byte line_feed then bytes_between place last bytes else bytes_between place end bytes)
text_by_last place last end byte bytes e l h =
    let more : bytes_between place end bytes ≡ bytes_between place last bytes ++ byte ∷ [] =
    ap (λ n. bytes_between place n bytes) e ∙ one_more place last byte bytes l h in
    ap text_in more
    ∙ (text_in_more byte (bytes_between place last bytes) ∙ ap (λ xs. if nat_eq byte line_feed then bytes_between place last bytes else xs) (sym more))

-- where one byte is read there
pub read_text : (E : Type 0) (known : Option (List ℕ)) (place last end n : ℕ) (piece bytes : List ℕ) → ReadsFrom {E = E} known last (Ok n) piece
    → known ≡ Some bytes → (n ≡ 0 → ⊥) → length piece ≡ 1 → end ≡ last + 1 → place ≤ last
    → text_in (bytes_between place end bytes) ≡ (if nat_eq (get_or piece 0 0) line_feed then bytes_between place last bytes else bytes_between place end bytes)
read_text E known place last end n [] bytes h k some one e l = cc
read_text E known place last end zero (b ∷ []) bytes h k some one e l = absurd (some refl)
read_text E known place last end (suc zero) (b ∷ []) bytes h k some one e l =
    text_by_last place last end b bytes e l (part_read E known last 1 (b ∷ []) bytes h k)
read_text E known place last end (suc (suc n)) (b ∷ []) bytes h k some one e l =
    text_by_last place last end b bytes e l (part_read E known last (suc (suc n)) (b ∷ []) bytes h k)
read_text E known place last end n (b ∷ c ∷ piece) bytes h k some one e l = absurd (omega (arith, one))

-- ---- each part stands at its place

abbrev pub Stands : List ℕ → Part → Type 0
Stands bytes part = take (length part.bytes) (drop part.start bytes) ≡ part.bytes

abbrev Begins : ℕ → List Part → Type 0
Begins place [] = Unit {0}
Begins place (part ∷ more) = part.start ≡ place

begins : (framing : Framing) (last : RecordEnd) (place : ℕ) (bytes : List ℕ) → Begins place (parts_from framing last place bytes)
begins framing last place [] = refl
begins framing last place (byte ∷ more) = by_test (nat_eq byte (separator_of framing))
  where
    of_first : (parts : List Part) → Begins place (with_first place byte parts)
    of_first [] = tt
    of_first (part ∷ parts) = refl

    by_test : (t : Bool) → Begins place (if t then part_at place [] Separator ∷ parts_from framing last (place + 1) more else with_first place byte
        (parts_from framing last (place + 1) more))
    by_test true = refl
    by_test false = of_first (parts_from framing last (place + 1) more)

first_stands : (bytes : List ℕ) (place byte : ℕ) (parts : List Part) → drop place bytes ≡ byte ∷ drop (place + 1) bytes → Begins (place + 1) parts
    → AllByRecursion (Stands bytes) parts → AllByRecursion (Stands bytes) (with_first place byte parts)
first_stands bytes place byte [] e b h = tt
first_stands bytes place byte (part ∷ more) e b h = (
  ap (take (suc (length part.bytes))) e
      ∙ ap (λ xs. byte ∷ xs) (ap (λ n. take (length part.bytes) (drop n bytes)) (sym b) ∙ h.0),
  h.1,
)

parts_stand : (framing : Framing) (last : RecordEnd) (bytes after : List ℕ) (place : ℕ) (rest : List ℕ) → drop place bytes ≡ rest ++ after
    → AllByRecursion (Stands bytes) (parts_from framing last place rest)
parts_stand framing last bytes after place [] e = (refl, tt)
parts_stand framing last bytes after place (byte ∷ more) e =
    by_test (nat_eq byte (separator_of framing)) (parts_stand framing last bytes after (place + 1) more next)
  where
    next : drop (place + 1) bytes ≡ more ++ after
    next = sym (drop-drop 1 place bytes) ∙ ap (drop 1) e

    by_test : (t : Bool) → AllByRecursion (Stands bytes) (parts_from framing last (place + 1) more) → AllByRecursion (Stands bytes)
        (if t then part_at place [] Separator ∷ parts_from framing last (place + 1) more else with_first place byte (parts_from framing last (place + 1) more))
    by_test true h = (refl, h)
    by_test false h =
        first_stands bytes place byte (parts_from framing last (place + 1) more) (e ∙ ap (λ xs. byte ∷ xs) (sym next)) (begins framing last (place + 1) more) h

all_stand : (framing : Framing) (limits : Allowed) (bytes : List ℕ) → AllByRecursion (Stands bytes) (parts_of framing limits bytes)
all_stand framing limits bytes = by_test (is_too_long limits bytes)
  where
    by_test : (t : Bool) → AllByRecursion (Stands bytes)
        (if t then parts_from framing Limit 0 (take limits.bytes bytes) else parts_from framing Input 0 bytes)
    by_test true = parts_stand framing Limit bytes (drop limits.bytes bytes) 0 (take limits.bytes bytes) (sym (take-append-drop limits.bytes bytes))
    by_test false = parts_stand framing Input bytes [] 0 bytes (sym (append-nil bytes))

counted_stand : (framing : Framing) (number : ℕ) (bytes : List ℕ) (parts : List Part) → AllByRecursion (Stands bytes) parts
    → AllByRecursion (λ entry. Stands bytes entry.part) (entries_from framing number parts)
counted_stand framing number bytes [] h = tt
counted_stand framing number bytes (part ∷ more) h =
    by_test (is_counted framing number part) (entries_from framing (number_after (is_counted framing number part) number) more)
    (counted_stand framing (number_after (is_counted framing number part) number) bytes more h.1)
  where
    by_test : (t : Bool) (entries : List Entry) → AllByRecursion (λ entry. Stands bytes entry.part) entries
        → AllByRecursion (λ entry. Stands bytes entry.part) (entry_if t (entry_at number part) entries)
    by_test true entries k = (h.0, k)
    by_test false entries k = k

pub entries_stand : (framing : Framing) (limits : Allowed) (bytes : List ℕ)
    → AllByRecursion (λ entry. Stands bytes entry.part) (entries_of framing limits bytes)
entries_stand framing limits bytes = counted_stand framing (first_number framing) bytes (parts_of framing limits bytes) (all_stand framing limits bytes)

-- those between the place and the end of a part are its own
pub own_of_part : (bytes : List ℕ) (part : Part) (place end : ℕ) → place ≡ part.start → end ≡ part.start + length part.bytes → Stands bytes part
    → bytes_between place end bytes ≡ part.bytes
own_of_part bytes part place end e f h = ap (λ n. take n (drop place bytes)) (counted place end part.start (length part.bytes) e f)
    ∙ (ap (λ p. take (length part.bytes) (drop p bytes)) e ∙ h)
  where
    counted : (p a s n : ℕ) → p ≡ s → a ≡ s + n → a - p ≡ n
    counted p a s n e f = omega (arith, e, f)

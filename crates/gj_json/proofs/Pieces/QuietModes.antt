-- White space and digits leave some modes as they are, and bytes of a string its mode.
use Rattle.gj_json.proofs.Common.{AllByRecursion, Bool, ColonDue, IsAscii, IsPlain, IsQuiet, IsWhite, List, Mode, NameDue, NameOn, None, NumberOn}
use Rattle.gj_json.proofs.Common.{Plain, StringState, ValueDone, ValueDue, ap, append_assoc, arith, cond, drop, false, get_or, in_number}
use Rattle.gj_json.proofs.Common.{is_unescaped_ascii, is_white, length, nat_tests, prefix_len, refl, string_goes, string_next, subst, suc, sym}
use Rattle.gj_json.proofs.Common.{take-add, take_more, text_state, true, zero, ℕ, [], ◌++◌, ◌+◌, ◌-◌, ◌<◌, ◌∙◌, ◌∷◌, ◌≡◌, ◌≤◌}
use Rattle.std.proofs.Common.{take}
use Rattle.std.proofs.Common.{append-nil}
use Rattle.std.proofs.Math.Numerals.{one-add}
use Rattle.gj_json.specs.declared.class.Class.TheVariants.{White as white}
use Rattle.gj_json.specs.declared.mode.Mode.TheVariants.{ArrayOpened, ObjectOpened, StringOn}
use Rattle.gj_json.proofs.Pieces.PieceRests.{rest_of}
use Rattle.gj_json.specs.Internal.ByteClasses.{class_of}
use Rattle.gj_json.specs.Internal.QuietBytes.{Leads, Reads, awaits_token}
use Rattle.gj_json.proofs.Grammar.ClassOfBytes.{class_is}
use Rattle.gj_json.proofs.Grammar.SpelledTexts.{plain_on}

-- what passes a test, up to the first byte that does not
pub all_run : (p : ℕ → Bool) (P : ℕ → Type 0) → ((b : ℕ) → p b ≡ true → P b) → (xs : List ℕ) → AllByRecursion P (take (prefix_len p xs) xs)
all_run p P f [] = tt
all_run p P f (x ∷ xs) = go (p x) refl (all_run p P f xs)
  where
    go : (t : Bool) → p x ≡ t → AllByRecursion P (take (prefix_len p xs) xs) → AllByRecursion P (take (cond t (1 + prefix_len p xs) 0) (x ∷ xs))
    go true e h = rw one-add (f x e, h)
    go false e h = tt

-- and fewer of these
pub part_run : (p : ℕ → Bool) (P : ℕ → Type 0) → ((b : ℕ) → p b ≡ true → P b) → (n : ℕ) (xs : List ℕ) → n ≤ prefix_len p xs
    → AllByRecursion P (take n xs)
part_run p P f zero xs h = tt
part_run p P f (suc n) [] h = tt
part_run p P f (suc n) (x ∷ xs) h = go (p x) refl h (part_run p P f n xs)
  where
    go : (t : Bool) → p x ≡ t → suc n ≤ cond t (1 + prefix_len p xs) 0 → (n ≤ prefix_len p xs → AllByRecursion P (take n xs))
        → AllByRecursion P (take (suc n) (x ∷ xs))
    go true e k more = (f x e, more (omega (arith, k)))
    go false e k more = absurd (omega (arith, k))

plain_is : (b : ℕ) → is_unescaped_ascii b ≡ true → IsPlain b
plain_is b e = (grind (arith, nat_tests), grind (arith, nat_tests), grind (arith, nat_tests), grind (arith, nat_tests))

plain_reads : (xs : List ℕ) → AllByRecursion IsPlain xs → Reads Plain xs xs Plain
plain_reads [] h = (refl, refl)
plain_reads (x ∷ xs) h = (Plain, x ∷ [], xs, plain_on x h.0, refl, plain_reads xs h.1)

plain_ascii : (xs : List ℕ) → AllByRecursion IsPlain xs → AllByRecursion IsAscii xs
plain_ascii [] h = tt
plain_ascii (x ∷ xs) h = (omega (arith, h.0.1), plain_ascii xs h.1)

pub white_is : (b : ℕ) → is_white b ≡ true → IsWhite b
white_is b e = grind (arith, nat_tests)

pub class_white : (b : ℕ) → is_white b ≡ true → class_of b ≡ white
class_white b e = class_is white b (white_is b e) (λ e. cc)

differ : false ≡ true → ⊥
differ h = cc

-- where white space may stand, no number, string or name is under way
pub awaits_other : (mode : Mode) → awaits_token mode ≡ true → in_number mode ≡ false
awaits_other NumberOn h = absurd (differ h)
awaits_other _ h = refl

pub awaits_no_text : (mode : Mode) → awaits_token mode ≡ true → text_state mode ≡ None
awaits_no_text (StringOn state) h = absurd (differ h)
awaits_no_text (NameOn state) h = absurd (differ h)
awaits_no_text _ h = refl

pub quiet_white : (mode : Mode) → awaits_token mode ≡ true → (b : ℕ) → is_white b ≡ true → IsQuiet mode b
quiet_white ValueDue h b e = record { moves = λ turn inner words. rw (class_white b e) refl; on = refl }
quiet_white ValueDone h b e = record { moves = λ turn inner words. rw (class_white b e) refl; on = refl }
quiet_white ArrayOpened h b e = record { moves = λ turn inner words. rw (class_white b e) refl; on = refl }
quiet_white ObjectOpened h b e = record { moves = λ turn inner words. rw (class_white b e) refl; on = refl }
quiet_white NameDue h b e = record { moves = λ turn inner words. rw (class_white b e) refl; on = refl }
quiet_white ColonDue h b e = record { moves = λ turn inner words. rw (class_white b e) refl; on = refl }
quiet_white _ h b e = absurd (differ h)

pub plain_run : (xs : List ℕ) → Reads Plain (take (prefix_len is_unescaped_ascii xs) xs) (take (prefix_len is_unescaped_ascii xs) xs) Plain
    × AllByRecursion IsAscii (take (prefix_len is_unescaped_ascii xs) xs)
plain_run xs =
    let h = all_run is_unescaped_ascii IsPlain plain_is xs in
    (plain_reads (take (prefix_len is_unescaped_ascii xs) xs) h, plain_ascii (take (prefix_len is_unescaped_ascii xs) xs) h)

pub plain_part : (n : ℕ) (xs : List ℕ) → n ≤ prefix_len is_unescaped_ascii xs → Reads Plain (take n xs) (take n xs) Plain
plain_part n xs h = plain_reads (take n xs) (part_run is_unescaped_ascii IsPlain plain_is n xs h)

pub white_run : (mode : Mode) → awaits_token mode ≡ true → (xs : List ℕ) → AllByRecursion (IsQuiet mode) (take (prefix_len is_white xs) xs)
white_run mode h xs = all_run is_white (IsQuiet mode) (quiet_white mode h) xs

-- ---- one prefix of a piece after another

pub joined : (a b c : StringState) (xs ys cs ds : List ℕ) → Reads a xs cs b → Reads b ys ds c → Reads a (xs ++ ys) (cs ++ ds) c
joined a b c [] ys cs ds h g = let P : StringState → Type 0 = λ s. Reads s ys ds c in rw (h.1) (subst P (sym h.0) g)
joined a b c (x ∷ xs) ys cs ds h g = (h.0, h.1, h.2 ++ ds, h.3, ap (λ zs. zs ++ ds) h.4 ∙ append_assoc h.1 h.2 ds, joined h.0 b c xs ys h.2 ds h.5 g)

pub reads_more : (a b c : StringState) (piece cs ds : List ℕ) (at n : ℕ) → Reads a (take at piece) cs b
    → Reads b (take n (take (length piece - at) (drop at piece))) ds c → Reads a (take (at + n) piece) (cs ++ ds) c
reads_more a b c piece cs ds at n h g =
    let P : List ℕ → Type 0 = λ xs. Reads b (take n xs) ds c in
    let Q : List ℕ → Type 0 = λ xs. Reads a xs (cs ++ ds) c in
    subst Q (sym (take-add at n piece)) (joined a b c (take at piece) (take n (drop at piece)) cs ds h (subst P (rest_of piece at) g))

pub reads_byte : (a b c : StringState) (piece cs more : List ℕ) (at : ℕ) → at < length piece → Reads a (take at piece) cs b
    → string_next b (get_or piece at 0) ≡ string_goes more c → Reads a (take (at + 1) piece) (cs ++ more) c
reads_byte a b c piece cs more at w h g =
    let Q : List ℕ → Type 0 = λ xs. Reads a xs (cs ++ more) c in
    subst Q (sym (take_more piece at 0 w))
    (joined a b c (take at piece) (get_or piece at 0 ∷ []) cs more h (c, more, [], g, sym (append-nil more), (refl, refl)))

pub quiet_leads : (mode : Mode) (xs : List ℕ) → AllByRecursion (IsQuiet mode) xs → Leads mode xs mode
quiet_leads mode [] h = refl
quiet_leads mode (x ∷ xs) h = (mode, h.0, quiet_leads mode xs h.1)

-- a mode in which no number is under way
pub other_mode : (mode : Mode) → (mode ≡ NumberOn → ⊥) → in_number mode ≡ false
other_mode NumberOn h = absurd (h refl)
other_mode _ h = refl

pub no_text : (mode : Mode) → ((state : StringState) → mode ≡ StringOn state → ⊥) → ((state : StringState) → mode ≡ NameOn state → ⊥) → text_state mode ≡ None
no_text (StringOn state) h k = absurd (h state refl)
no_text (NameOn state) h k = absurd (k state refl)
no_text _ h k = refl

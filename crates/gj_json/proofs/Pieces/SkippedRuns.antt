-- Bytes that complete nothing, from reader to reader.
use Rattle.gj_json.proofs.Common.{AllByRecursion, Content, GoesOn, Holds, IsAscii, List, Mode, None, Passed, Reader, Skips, StringState, ap}
use Rattle.gj_json.proofs.Common.{append_assoc, arith, drop, false, get_or, in_number, length, refl, string_goes, string_next, subst, sym, text_state}
use Rattle.gj_json.proofs.Common.{ℕ, [], ◌++◌, ◌+◌, ◌-◌, ◌<◌, ◌∙◌, ◌≡◌}
use Rattle.std.proofs.Common.{take}
use Rattle.gj_json.specs.Internal.FedReader.{leading, in_text}
use Rattle.gj_json.specs.Internal.QuietBytes.{Leads, Reads}
use Rattle.gj_json.proofs.Readers.StepsAlike.{Alike}
use Rattle.gj_json.proofs.Pieces.QuietModes.{reads_more, reads_byte}
use Rattle.gj_json.proofs.Pieces.PieceRests.{rest_of}

pub nothing_skipped : (reader : Reader) → in_number reader.mode ≡ false → text_state reader.mode ≡ None → Skips reader reader []
nothing_skipped reader e f = record { limits = refl; fault = refl; levels = refl; start = refl; offset = omega arith; by = leading refl e f }

pub leads_skips : (old new : Reader) (given : List ℕ) (count : ℕ) (mode : Mode) → length given ≡ count → Passed count mode old new → Leads old.mode given mode
    → in_number mode ≡ false → text_state mode ≡ None → Skips old new given
leads_skips old new given count mode n p l e f =
    let P : Mode → Type 0 = λ m. Leads old.mode given m in record {
      limits = p.limits;
      fault = p.fault;
      levels = p.levels;
      start = p.start;
      offset = p.offset ∙ ap (λ k. old.offset + k) (sym n);
      by = leading (subst P (sym p.mode_is) l) (ap (λ m. in_number m) p.mode_is ∙ e) (ap (λ m. text_state m) p.mode_is ∙ f);
    }

pub text_skips : (old mid new : Reader) (given characters : List ℕ) (count : ℕ) (first last : StringState) (mode : Mode) → Alike mid old → length given ≡ count
    → Passed count mode mid new → GoesOn old.mode first mode last → Reads first given characters last
    → ((so_far : List ℕ) → Holds old.content so_far → Holds mid.content (so_far ++ characters)) → Skips old new given
text_skips old mid new given characters count first last mode a n p m r holds =
    let P : Mode → Type 0 = λ x. GoesOn old.mode first x last in
    let Q : Content → List ℕ → Type 0 = λ c xs. Holds c xs in record {
      limits = p.limits ∙ a.limits;
      fault = p.fault ∙ a.fault;
      levels = p.levels ∙ a.levels;
      start = p.start ∙ a.start;
      offset = p.offset ∙ ap (λ k. k + count) a.offset ∙ ap (λ k. old.offset + k) (sym n);
      by = in_text first last characters (subst P (sym p.mode_is) m) r
          (λ so_far h. let R : Content → Type 0 = λ c. Q c (so_far ++ characters) in subst R (sym p.content) (holds so_far h));
    }

-- the slice of a run of characters
run_slice : (piece : List ℕ) (at n : ℕ) → take (at + n - at) (drop at piece) ≡ take n (take (length piece - at) (drop at piece))
run_slice piece at n = let e : at + n - at ≡ n = omega arith in ap (λ k. take k (drop at piece)) e ∙ ap (λ xs. take n xs) (sym (rest_of piece at))

-- what has been read of a string after so many bytes, and what is kept of it
abbrev pub HasRead : StringState → List ℕ → ℕ → StringState → Content → Content → Type 0
HasRead first piece at here old new =
    (characters : List ℕ) × Reads first (take at piece) characters here × ((so_far : List ℕ) → Holds old so_far → Holds new (so_far ++ characters))

pub after_plain : (first here : StringState) (piece : List ℕ) (at n : ℕ) (old mid new : Content) → HasRead first piece at here old mid
    → Reads here (take n (take (length piece - at) (drop at piece))) (take n (take (length piece - at) (drop at piece))) here
    → AllByRecursion IsAscii (take n (take (length piece - at) (drop at piece)))
    → ((characters : List ℕ) → AllByRecursion IsAscii (take (at + n - at) (drop at piece)) → Holds mid characters
    → Holds new (characters ++ take (at + n - at) (drop at piece))) → HasRead first piece (at + n) here old new
after_plain first here piece at n old mid new h r a p =
    let run = take n (take (length piece - at) (drop at piece)) in
    let P : List ℕ → Type 0 = λ xs. (characters : List ℕ) → AllByRecursion IsAscii xs → Holds mid characters → Holds new (characters ++ xs) in
    let q : P run = subst P (run_slice piece at n) p in (
      h.0 ++ run,
      reads_more first here here piece h.0 run at n h.1 r,
      λ so_far k. let Q : List ℕ → Type 0 = λ xs. Holds new xs in subst Q (append_assoc so_far h.0 run) (q (so_far ++ h.0) a (h.2 so_far k)),
    )

-- and whole characters of which nothing is kept
pub after_text : (first here : StringState) (piece characters : List ℕ) (at n : ℕ) (old new : Content) → HasRead first piece at here old new
    → Reads here (take n (take (length piece - at) (drop at piece))) characters here
    → ((so_far : List ℕ) → Holds new so_far → Holds new (so_far ++ characters)) → HasRead first piece (at + n) here old new
after_text first here piece characters at n old new h r p = (
  h.0 ++ characters,
  reads_more first here here piece h.0 characters at n h.1 r,
  λ so_far k. let Q : List ℕ → Type 0 = λ xs. Holds new xs in subst Q (append_assoc so_far h.0 characters) (p (so_far ++ h.0) (h.2 so_far k)),
)

-- and one byte more
pub after_byte : (first here next : StringState) (piece more : List ℕ) (at : ℕ) (old mid new : Content) → HasRead first piece at here old mid
    → at < length piece → string_next here (get_or piece at 0) ≡ string_goes more next
    → ((so_far : List ℕ) → Holds mid so_far → Holds new (so_far ++ more)) → HasRead first piece (at + 1) next old new
after_byte first here next piece more at old mid new h w e p = (
  h.0 ++ more,
  reads_byte first here next piece h.0 more at w h.1 e,
  λ so_far k. let Q : List ℕ → Type 0 = λ xs. Holds new xs in subst Q (append_assoc so_far h.0 more) (p (so_far ++ h.0) (h.2 so_far k)),
)

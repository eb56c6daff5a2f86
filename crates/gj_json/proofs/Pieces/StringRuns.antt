-- Where a run of characters goes on: after bytes that some byte of a character may follow.
use Rattle.gj_json.proofs.Common.{AfterE0, AfterED, AfterF0, AfterF4, AllByRecursion, Any, Array, Bool, Bounds, ColonDue, Completed, Constant}
use Rattle.gj_json.proofs.Common.{ConstantOn, Event, False, FeedsAll, FitsBroken, Go, Holds, IsViable, Level, List, MarkOne, MarkTwo, Mode, Move}
use Rattle.gj_json.proofs.Common.{NameDue, NameOn, None, Nothing, Null, NumberOn, NumberTurn, Object, Option, Passed, Plain, Reader, Refuse, Skips}
use Rattle.gj_json.proofs.Common.{Some, StandsAs, StandsFor, StringState, TextDue, True, Under, ValueDone, ValueDue, after_move, arith, constant_move}
use Rattle.gj_json.proofs.Common.{false, in_number, inl, inner_of, inr, length, letters_of, move_of, number_move, refl, run, step, string_goes}
use Rattle.gj_json.proofs.Common.{string_next, string_refuses, subst, suc, true, turn_of, under_of, words_of, zero, ℕ, [], ◌++◌, ◌+◌, ◌==◌, ◌∙◌, ◌∷◌}
use Rattle.gj_json.proofs.Common.{◌≡◌, ◌≤◌}
use Rattle.std.proofs.Common.{take, slice_index}
use Rattle.std.specs.Str.{IsUtf8}
use Rattle.std.proofs.lemmas.List.{length-append}
use Rattle.gj_json.specs.Internal.ByteClasses.{class_of}
use Rattle.gj_json.specs.Characters.{hex_of, escape_of}
use Rattle.gj_json.specs.Utf8Bytes.{lead_of}
use Rattle.gj_json.specs.declared.class.Class.TheVariants.{Other as other}
use Rattle.gj_json.specs.declared.mode.Mode.TheVariants.{ArrayOpened, ObjectOpened}
use Rattle.gj_json.specs.declared.mode.Mode.TheVariants.{StringOn}
use Rattle.gj_json.specs.declared.mode.StringState.TheVariants.{Escape, HexDue, HexOne, HexTwo, HexThree, InCharacter}
use Rattle.gj_json.specs.Internal.OpenLevels.{levels_in}
use Rattle.gj_json.specs.Internal.TextMachine.{Broken, plain_step}
use Rattle.gj_number.specs.DecidedNumbers.{is_number, begins_number}
use Rattle.gj_json.proofs.Grammar.NumberPrefixes.{stops}
use Rattle.gj_json.specs.Internal.QuietBytes.{is_between}
use Rattle.gj_json.specs.Runs.{character_byte}
use Rattle.gj_json.specs.Internal.UnderWay.{nothing, number, text}
use Rattle.gj_json.proofs.Readers.StepsAlike.{Alike}
use Rattle.gj_json.proofs.Machine.BytesUnderWay.{mode_under, has_number}
use Rattle.gj_json.proofs.Machine.Completions.{Goes}
use Rattle.gj_json.proofs.Readers.CallsInTurn.{skip_feeds, live_offset}
use Rattle.gj_json.proofs.Readers.NumberUnderWay.{own_turn, own_turns}
use Rattle.gj_json.proofs.Readers.ReadBytes.{run-push, some_viable, none_viable, well_of}
use Rattle.gj_json.proofs.Readers.Simulation.{Follows, moves}
use Rattle.gj_json.proofs.Pieces.SkippedRuns.{text_skips}
use Rattle.gj_json.proofs.Pieces.PieceRests.{take_all_of}
use Rattle.gj_json.proofs.Grammar.Utf8Characters.{IsUnescaped, characters_read}

-- ---- the byte C2, mode by mode

class_c2 : class_of character_byte ≡ other
unfolding class_of
class_c2 = refl

lead_c2 : string_next Plain character_byte ≡ string_goes [] (InCharacter 0 Any 2)
unfolding plain_step lead_of
lead_c2 = refl

-- where a run goes on, a character is under way after it
abbrev begun_in : Mode → Mode
begun_in (StringOn state) = StringOn (InCharacter 0 Any 2)
begun_in (NameOn state) = NameOn (InCharacter 0 Any 2)
begun_in mode = mode

in_text_c2 : (mode : Mode) → is_between mode ≡ true → (turn : NumberTurn) (inner : Option Level)
    → move_of mode turn inner (words_of []) character_byte ≡ Go (begun_in mode) Nothing
in_text_c2 (StringOn Plain) e turn inner = rw lead_c2 refl
in_text_c2 (NameOn Plain) e turn inner = rw lead_c2 refl
in_text_c2 _ e turn inner = cc

after_c2 : (inner : Option Level) → after_move inner other ≡ Refuse
after_c2 None = refl
after_c2 (Some Array) = refl
after_c2 (Some Object) = refl

number_c2 : (so_far : List ℕ) → begins_number (so_far ++ character_byte ∷ []) ≡ false
number_c2 so_far = stops so_far character_byte (λ h. omega (arith, h))

ended_c2 : (may_end : Bool) (inner : Option Level) → number_move (turn_of false may_end) (after_move inner other) ≡ Refuse
ended_c2 true inner = after_c2 inner
ended_c2 false inner = refl

number_move_c2 : (under : Under) (inner : Option Level) → true ≡ has_number under
    → number_move (own_turn under character_byte) (after_move inner (class_of character_byte)) ≡ Refuse
number_move_c2 (number so_far) inner e = rw (class_c2, number_c2 so_far) (ended_c2 (is_number so_far) inner)
number_move_c2 nothing inner e = cc
number_move_c2 (text so_far state) inner e = cc

letter_c2 : (letters : List ℕ) (count : ℕ) → AllByRecursion (λ a. (character_byte == a) ≡ false) letters → (character_byte == slice_index letters count) ≡ false
letter_c2 [] count h = refl
letter_c2 (x ∷ xs) zero h = h.0
letter_c2 (x ∷ xs) (suc count) h = letter_c2 xs count h.1

constant_c2 : (which : Constant) (count : ℕ) → constant_move which count character_byte ≡ Refuse
constant_c2 Null count = rw (letter_c2 (letters_of Null) count (refl, (refl, (refl, (refl, tt))))) refl
constant_c2 True count = rw (letter_c2 (letters_of True) count (refl, (refl, (refl, (refl, tt))))) refl
constant_c2 False count = rw (letter_c2 (letters_of False) count (refl, (refl, (refl, (refl, (refl, tt)))))) refl

hex_c2 : hex_of character_byte ≡ None
unfolding hex_of
hex_c2 = refl

escape_c2 : escape_of character_byte ≡ None
unfolding escape_of
escape_c2 = refl

bounds_c2 : (more : ℕ) (bounds : Bounds) (value : ℕ) → string_next (InCharacter more bounds value) character_byte ≡ string_refuses
bounds_c2 more Any value = refl
bounds_c2 more AfterE0 value = refl
bounds_c2 more AfterED value = refl
bounds_c2 more AfterF0 value = refl
bounds_c2 more AfterF4 value = refl

escaped_c2 : (state : StringState) → (state ≡ Plain → ⊥) → string_next state character_byte ≡ string_refuses
escaped_c2 Plain h = absurd (h refl)
escaped_c2 Escape h = rw escape_c2 refl
escaped_c2 HexDue h = rw hex_c2 refl
escaped_c2 (HexOne value) h = rw hex_c2 refl
escaped_c2 (HexTwo value) h = rw hex_c2 refl
escaped_c2 (HexThree value) h = rw hex_c2 refl
escaped_c2 (InCharacter more bounds value) h = bounds_c2 more bounds value

elsewhere_c2 : (mode : Mode) (under : Under) (inner : Option Level) → is_between mode ≡ false → in_number mode ≡ has_number under
    → move_of mode (own_turn under character_byte) inner (words_of []) character_byte ≡ Refuse
elsewhere_c2 TextDue under inner e n = rw class_c2 refl
elsewhere_c2 MarkOne under inner e n = refl
elsewhere_c2 MarkTwo under inner e n = refl
elsewhere_c2 ValueDue under inner e n = rw class_c2 refl
elsewhere_c2 ValueDone under inner e n = rw class_c2 (after_c2 inner)
elsewhere_c2 ArrayOpened under inner e n = rw class_c2 refl
elsewhere_c2 ObjectOpened under inner e n = rw class_c2 refl
elsewhere_c2 (ConstantOn which count) under inner e n = constant_c2 which count
elsewhere_c2 NumberOn under inner e n = number_move_c2 under inner n
elsewhere_c2 (StringOn state) under inner e n =
    rw (escaped_c2 state (λ f. let P : StringState → Type 0 = λ s. is_between (StringOn s) ≡ false in let k = subst P f e in cc)) refl
elsewhere_c2 NameDue under inner e n = rw class_c2 refl
elsewhere_c2 (NameOn state) under inner e n =
    rw (escaped_c2 state (λ f. let P : StringState → Type 0 = λ s. is_between (NameOn s) ≡ false in let k = subst P f e in cc)) refl
elsewhere_c2 ColonDue under inner e n = rw class_c2 refl

-- ---- so the byte shows where a run goes on

module _ (reader : Reader) (bytes : List ℕ) (live : reader.fault ≡ None) (h : StandsFor reader bytes) where
  follows : (move : Move)
      → ((u : Under) → in_number reader.mode ≡ has_number u
      → move_of reader.mode (own_turn u character_byte) (inner_of (levels_in reader.levels)) (words_of []) character_byte ≡ move)
      → (state : Broken) × (run bytes ≡ Some state) × Follows reader.limits.depth (levels_in reader.levels) move (step state (length bytes) character_byte)
  follows move m =
      let w = well_of reader bytes live h in
      let u = under_of w.state in
      let P : Move → Type 0 = λ k. Follows reader.limits.depth (levels_in reader.levels) k (step w.state (length bytes) character_byte) in
      let f : P (move_of reader.mode (own_turn u character_byte) (inner_of (levels_in reader.levels)) (words_of []) character_byte) =
      moves reader.limits.depth w.state reader.mode (own_turn u character_byte) (words_of []) (levels_in reader.levels) (length bytes) character_byte w.kept
      (own_turns u character_byte) w.fits in
      (w.state, w.runs, subst P (m u (mode_under w.state reader.mode (levels_in reader.levels) w.kept)) f)

  pub viable_between : is_between reader.mode ≡ true → IsViable (bytes ++ character_byte ∷ [])
  viable_between e =
      let f = follows (Go (begun_in reader.mode) Nothing) (λ u n. in_text_c2 reader.mode e (own_turn u character_byte) (inner_of (levels_in reader.levels))) in
      reach (begun_in reader.mode) f.0 f.1 (step f.0 (length bytes) character_byte) refl f.2
    where
      reach : (next : Mode) (state : Broken) → run bytes ≡ Some state → (o : Option Broken) → step state (length bytes) character_byte ≡ o
          → Goes (λ s. StandsAs s next (levels_in reader.levels) × FitsBroken reader.limits.depth s) o
          → IsViable (bytes ++ character_byte ∷ [])
      reach next state r None e g = absurd g
      reach next state r (Some s) e g = some_viable reader.limits.depth (bytes ++ character_byte ∷ []) s (run-push bytes character_byte state r ∙ e) g.1

  pub not_viable_elsewhere : is_between reader.mode ≡ false → IsViable (bytes ++ character_byte ∷ []) → ⊥
  not_viable_elsewhere e =
      let f = follows Refuse (λ u n. elsewhere_c2 reader.mode u (inner_of (levels_in reader.levels)) e n) in
      none_viable (bytes ++ character_byte ∷ []) (run-push bytes character_byte f.0 f.1 ∙ f.2)

-- ---- the characters that are passed over

pub run_skips : (old mid new : Reader) (given : List ℕ) (count : ℕ) (mode : Mode) → old.mode ≡ mode → is_between mode ≡ true → length given ≡ count
    → Alike mid old → Passed count mode mid new → (utf8 : IsUtf8 given) → AllByRecursion IsUnescaped given
    → ((so_far : List ℕ) → Holds old.content so_far → Holds mid.content (so_far ++ utf8.0)) → Skips old new given
run_skips old mid new given count (StringOn Plain) m e n a p utf8 all holds =
    text_skips old mid new given utf8.0 count Plain Plain (StringOn Plain) a n p (inl (m, refl)) (characters_read given utf8 all) holds
run_skips old mid new given count (NameOn Plain) m e n a p utf8 all holds =
    text_skips old mid new given utf8.0 count Plain Plain (NameOn Plain) a n p (inr (m, refl)) (characters_read given utf8 all) holds
run_skips old mid new given count _ m e n a p utf8 all holds = cc

-- what bytes that complete nothing leave, and that they complete nothing
module _ (old new : Reader) (given bytes : List ℕ) (live : old.fault ≡ None) (room : old.offset + length given ≤ old.limits.bytes) (skips : Skips old new given)
    (h : StandsFor old bytes) where
  fed : FeedsAll (λ events. events ≡ []) (λ events. events ≡ []) old new given
  fed = skip_feeds old new given live room skips

  pub skipped_stands : StandsFor new (bytes ++ given)
  skipped_stands = fed.feeds.stands bytes h

  pub skipped_silent : Completed (length bytes) (length bytes + length given) (bytes ++ given) []
  skipped_silent =
      let told = fed.feeds.told bytes [] h refl in
      let from : old.offset ≡ length bytes = live_offset old bytes live h in
      let to : new.offset ≡ length bytes + length given = omega (arith, from, fed.offset) in
      let all : take new.offset (bytes ++ given) ≡ bytes ++ given = take_all_of (bytes ++ given) new.offset (omega (arith, to, length-append bytes given)) in
      let P : ℕ → ℕ → List ℕ → List Event → Type 0 = λ a b xs es. Completed a b xs es in
      let found : told.0 ≡ [] = told.1 in
      subst (λ a. P a (length bytes + length given) (bytes ++ given) []) from
      (subst (λ b. P old.offset b (bytes ++ given) []) to
      (subst (λ xs. P old.offset new.offset xs []) all
      (subst (λ es. P old.offset new.offset (take new.offset (bytes ++ given)) es) found told.2)))

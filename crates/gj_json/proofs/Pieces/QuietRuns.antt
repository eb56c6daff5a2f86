-- Bytes that complete nothing, in a row.
use Rattle.gj_json.proofs.Common.{Allowed, BeginsNumber, BegunAs, ComesFrom, Completed, Content, EdgeAt, Ending, Event, FitsBroken, Go, GoesOn, Holds}
use Rattle.gj_json.proofs.Common.{IsText, Keeps, LeafAs, Level, List, Literal, Mode, NameOn, None, Nothing, NumberOn, NumberTurn, Option, Some}
use Rattle.gj_json.proofs.Common.{StandsAs, StandsOpen, StandsWell, StringState, Turns, Under, Words, ap, append_assoc, arith, emitted, ending_event}
use Rattle.gj_json.proofs.Common.{events_by, false, in_number, inl, inner_of, inr, length, move_of, name_string_move, number_events, refl, seen}
use Rattle.gj_json.proofs.Common.{start_after, step, string_goes, string_move, string_next, subst, sym, text_state, true, under_of, value_string_move}
use Rattle.gj_json.proofs.Common.{ℕ, [], ◌++◌, ◌+◌, ◌<◌, ◌∙◌, ◌∷◌, ◌≡◌, ◌≤◌}
use Rattle.std.proofs.Common.{append-nil}
use Rattle.gj_json.specs.Internal.TextMachine.{Broken, text_due, mark_one, mark_two, begun, Leaf, value_due, value_done}
use Rattle.gj_json.specs.Internal.TextMachine.{array_opened, object_opened, constant_on, number_on, string_on, name_due, name_on, colon_due}
use Rattle.gj_json.specs.Internal.QuietBytes.{LeadsBy, Leads, Reads}
use Rattle.gj_number.specs.Literal.{StandsFor as LiteralStandsFor}
use Rattle.gj_json.specs.declared.mode.Mode.TheVariants.{StringOn}
use Rattle.gj_json.proofs.Grammar.OneCharacter.{OneCharacter, one_character}
use Rattle.gj_json.specs.Internal.UnderWay.{nothing, number, text}
use Rattle.gj_json.proofs.Machine.BytesUnderWay.{has_number, state_under, CameTo, step_came, mode_under, mode_state}
use Rattle.gj_json.proofs.Readers.NumberUnderWay.{own_turn, own_turns, own_value, own_has, own_words, own_has_words, came_number, came_text}
use Rattle.gj_json.proofs.Grammar.NumberPrefixes.{goes_on}
use Rattle.gj_json.specs.Internal.ToldEvents.{is_on}
use Rattle.gj_json.proofs.Machine.Completions.{Goes}
use Rattle.gj_json.proofs.Readers.Simulation.{moves}
use Rattle.gj_json.proofs.Events.EventsOfSteps.{Tells}
use Rattle.gj_json.proofs.Readers.ReadBytes.{passed, told_by_step, completed_from}
use Rattle.gj_json.proofs.Readers.StepsAlike.{no_number}

-- where nothing is under way, it does not matter where that began
leaf_start : (leaf : Leaf) (mode next : Mode) (start n : ℕ) → is_on mode ≡ is_on next → LeafAs leaf next → BegunAs leaf (start_after mode start n)
    → BegunAs leaf start
leaf_start value_due mode next start n on a h = tt
leaf_start (value_done t) mode next start n on a h = tt
leaf_start (array_opened place) mode next start n on a h = tt
leaf_start (object_opened place) mode next start n on a h = tt
leaf_start (constant_on which place left) mode next start n on a h = rw (on, a.1) at h
leaf_start (number_on place so_far) mode next start n on a h = rw (on, a) at h
leaf_start (string_on place so_far state) mode next start n on a h = rw (on, a) at h
leaf_start (name_due place done) mode next start n on a h = tt
leaf_start (name_on place done np so_far state) mode next start n on a h = rw (on, a) at h
leaf_start (colon_due place done np name ne) mode next start n on a h = tt

edge_start : (s : Broken) (mode next : Mode) (levels : List Level) (start n m : ℕ) → is_on mode ≡ is_on next → StandsAs s next levels
    → EdgeAt s (start_after mode start n) m → EdgeAt s start m
edge_start text_due mode next levels start n m on a h = h
edge_start mark_one mode next levels start n m on a h = h
edge_start mark_two mode next levels start n m on a h = h
edge_start (begun marked s) mode next levels start n m on a h = (leaf_start s.leaf mode next start n on a.0 h.0, h.1)

-- bytes after bytes, of which neither complete anything
no_more : (offset n : ℕ) (bytes : List ℕ) (b : ℕ) (run : List ℕ) → Completed offset (offset + 1) (bytes ++ b ∷ []) []
    → Completed (offset + 1) n ((bytes ++ b ∷ []) ++ run) [] → Completed offset n (bytes ++ (b ∷ run)) []
no_more offset n bytes b run c d = λ T rest t.
    let u : IsText T (((bytes ++ b ∷ []) ++ run) ++ rest) = rw (append_assoc bytes (b ∷ []) run) t in
    let v : IsText T ((bytes ++ b ∷ []) ++ (run ++ rest)) = rw (append_assoc (bytes ++ b ∷ []) run rest) at u in
    d T rest u ∙ append-nil (events_by (offset + 1) T) ∙ c T (run ++ rest) v

-- a mode in which a string, or a name, is under way
record IsTextMode (on : StringState → Mode) : Type 0 where
  pub moves : (state next : StringState) (more : List ℕ) (b : ℕ) (turn : NumberTurn) (inner : Option Level) (words : Words)
      → string_next state b ≡ string_goes more next → move_of (on state) turn inner words b ≡ Go (on next) Nothing
  pub is_text : (state : StringState) → is_on (on state) ≡ true
  pub number : (state : StringState) → in_number (on state) ≡ false
  pub state : (state : StringState) → text_state (on state) ≡ Some state

string_mode : IsTextMode StringOn
string_mode = record {
  moves = λ state next more b turn inner words e. let o : OneCharacter (string_goes more next) =
      (let p = one_character state b in rw e at p) in rw e (move words more next o);
  is_text = λ state. refl;
  number = λ state. refl;
  state = λ state. refl;
}
  where
    move : (words : Words) (more : List ℕ) (next : StringState) → OneCharacter (string_goes more next)
        → value_string_move words (string_move (string_goes more next)) ≡ Go (StringOn next) Nothing
    move words [] next o = refl
    move words (c ∷ []) next o = rw o refl
    move words (c ∷ d ∷ more) next o = absurd o

name_mode : IsTextMode NameOn
name_mode = record {
  moves = λ state next more b turn inner words e. let o : OneCharacter (string_goes more next) =
      (let p = one_character state b in rw e at p) in rw e (move words more next o);
  is_text = λ state. refl;
  number = λ state. refl;
  state = λ state. refl;
}
  where
    move : (words : Words) (more : List ℕ) (next : StringState) → OneCharacter (string_goes more next)
        → name_string_move words (string_move (string_goes more next)) ≡ Go (NameOn next) Nothing
    move words [] next o = refl
    move words (c ∷ []) next o = rw o refl
    move words (c ∷ d ∷ more) next o = absurd o

-- a byte of a number may not lead on so
free_of_number : (mode : Mode) (b : ℕ) (next : Mode) → LeadsBy mode b next → in_number mode ≡ false
free_of_number NumberOn b next q = let e = q.moves NumberTurn.Refuses None (own_words nothing) in cc
free_of_number _ b next q = refl

module _ (limits : Allowed) (levels : List Level) (start : ℕ) where
  -- a byte that leads to another mode, by what it does to the number under way
  pub byte_well : (mode next : Mode) (ending : Ending) (offset : ℕ) (bytes : List ℕ) (b : ℕ) (k : StandsWell limits mode levels start offset bytes)
      (turn : NumberTurn) → Turns (under_of k.state) b turn → offset < limits.bytes
      → move_of mode turn (inner_of levels) (own_words (under_of k.state)) b ≡ Go next ending → is_on mode ≡ is_on next
      → (w : StandsWell limits next levels start (offset + 1) (bytes ++ b ∷ [])) × ComesFrom (under_of k.state) b (under_of w.state)
  unfolding passed
  byte_well mode next ending offset bytes b k turn t room m on =
      go (step k.state (length bytes) b) refl
      (rw m at (moves limits.depth k.state mode turn (own_words (under_of k.state)) levels (length bytes) b k.kept t k.fits))
      (told_by_step limits mode levels start offset bytes b k turn (own_value (under_of k.state)) (own_words (under_of k.state)) t
      (own_has (under_of k.state) turn) (own_has_words (under_of k.state))) (step_came k.state (length bytes) b)
    where
      es : List Event
      es = emitted mode turn (move_of mode turn (inner_of levels) (own_words (under_of k.state)) b) (own_value (under_of k.state)) start offset

      go : (o : Option Broken) → step k.state (length bytes) b ≡ o → Goes (λ s. StandsAs s next levels × FitsBroken limits.depth s) o
          → Tells (seen k.state) (start_after mode start offset) offset es o → CameTo (under_of k.state) b o
          → (w : StandsWell limits next levels start (offset + 1) (bytes ++ b ∷ [])) × ComesFrom (under_of k.state) b (under_of w.state)
      go None e f h c = absurd f
      go (Some s) e f h c =
          let w = passed limits mode levels start offset bytes b k s next levels es room e f.0 f.1 h in (
            record {
              state = s;
              runs = w.runs;
              fits = w.fits;
              kept = w.kept;
              at = w.at;
              within = w.within;
              timely = record { seen_by = w.timely.seen_by; edge = edge_start s mode next levels start offset (offset + 1) on f.0 w.timely.edge };
            },
            c,
          )

  pub byte_completes : (mode next : Mode) (ending : Ending) (offset : ℕ) (bytes : List ℕ) (b : ℕ) (k : StandsWell limits mode levels start offset bytes)
      (turn : NumberTurn) → Turns (under_of k.state) b turn
      → move_of mode turn (inner_of levels) (own_words (under_of k.state)) b ≡ Go next ending
      → number_events mode turn (own_value (under_of k.state)) start ≡ [] → ending_event ending start ≡ None
      → Completed offset (offset + 1) (bytes ++ b ∷ []) []
  byte_completes mode next ending offset bytes b k turn t m n q =
      let e : emitted mode turn (move_of mode turn (inner_of levels) (own_words (under_of k.state)) b) (own_value (under_of k.state)) start offset ≡ [] =
      rw (m, n, q) refl in
      let P : List Event → Type 0 = λ es. Completed offset (offset + 1) (bytes ++ b ∷ []) es in
      subst P e (completed_from limits mode levels start offset bytes b k turn (own_value (under_of k.state)) (own_words (under_of k.state)) t
      (own_has (under_of k.state) turn) (own_has_words (under_of k.state)))

  quiet_byte : (mode next : Mode) (offset : ℕ) (bytes : List ℕ) (b : ℕ) → StandsWell limits mode levels start offset bytes → offset < limits.bytes
      → LeadsBy mode b next
      → StandsWell limits next levels start (offset + 1) (bytes ++ b ∷ []) × Completed offset (offset + 1) (bytes ++ b ∷ []) []
  quiet_byte mode next offset bytes b k room q =
      let turn = own_turn (under_of k.state) b in
      let t = own_turns (under_of k.state) b in (
        (byte_well mode next Nothing offset bytes b k turn t room (q.moves turn (inner_of levels) (own_words (under_of k.state))) q.on).0,
        byte_completes mode next Nothing offset bytes b k turn t (q.moves turn (inner_of levels) (own_words (under_of k.state)))
            (no_number mode turn (own_value (under_of k.state)) start (free_of_number mode b next q)) refl,
      )

  -- the number under way after the bytes
  record AfterDigits (from to : ℕ) (bytes run all so_far : List ℕ) : Type 0 where
    pub well : StandsWell limits NumberOn levels start to all
    pub under : under_of well.state ≡ number so_far
    pub nothing_more : Completed from to all []

  -- digits that go on in a number
  digits_well : (run so_far : List ℕ) (offset : ℕ) (bytes : List ℕ) (k : StandsWell limits NumberOn levels start offset bytes)
      → under_of k.state ≡ number so_far
      → BeginsNumber (so_far ++ run) → offset + length run ≤ limits.bytes → AfterDigits offset (offset + length run) bytes run (bytes ++ run) (so_far ++ run)
  digits_well [] so_far offset bytes k u h room =
      let e : offset ≡ offset + 0 = omega arith in
      let P : ℕ → Type 0 = λ to. AfterDigits offset to bytes [] (bytes ++ []) (so_far ++ []) in
      subst P e (rw (append-nil bytes, append-nil so_far) (record { well = k; under = u; nothing_more = λ T rest t. sym (append-nil (events_by offset T)) }))
  digits_well (b ∷ run) so_far offset bytes k u h room =
      let more : BeginsNumber ((so_far ++ b ∷ []) ++ run) = rw (append_assoc so_far (b ∷ []) run) h in
      let t : Turns (under_of k.state) b NumberTurn.Goes = rw (u, goes_on so_far run b h) refl in
      let w = byte_well NumberOn NumberOn Nothing offset bytes b k NumberTurn.Goes t (omega arith) refl refl in
      let c : ComesFrom (number so_far) b (under_of w.0.state) = rw u at w.1 in
      let next = came_number so_far b (under_of w.0.state) (sym (mode_under w.0.state NumberOn levels w.0.kept)) c in
      let d = byte_completes NumberOn NumberOn Nothing offset bytes b k NumberTurn.Goes t refl refl refl in
      let g = digits_well run (so_far ++ b ∷ []) (offset + 1) (bytes ++ b ∷ []) w.0 next more (omega arith) in
      let e : offset + 1 + length run ≡ offset + length (b ∷ run) = omega arith in
      let P : ℕ → Type 0 = λ to. AfterDigits offset to bytes (b ∷ run) (bytes ++ (b ∷ run)) (so_far ++ (b ∷ run)) in
      let Q : List ℕ → Type 0 = λ xs. AfterDigits (offset + 1) (offset + 1 + length run) (bytes ++ b ∷ []) run ((bytes ++ b ∷ []) ++ run) xs in
      let j : AfterDigits (offset + 1) (offset + 1 + length run) (bytes ++ b ∷ []) run ((bytes ++ b ∷ []) ++ run) (so_far ++ (b ∷ run)) =
      subst Q (append_assoc so_far (b ∷ []) run) g in
      subst P e (earlier offset (offset + 1 + length run) bytes b run (so_far ++ (b ∷ run)) d j)
    where
      earlier : (offset to : ℕ) (bytes : List ℕ) (b : ℕ) (run so_far : List ℕ) → Completed offset (offset + 1) (bytes ++ b ∷ []) []
          → AfterDigits (offset + 1) to (bytes ++ b ∷ []) run ((bytes ++ b ∷ []) ++ run) so_far
          → AfterDigits offset to bytes (b ∷ run) (bytes ++ (b ∷ run)) so_far
      earlier offset to bytes b run so_far d g =
          let P : List ℕ → Type 0 = λ xs. Completed offset to xs [] → AfterDigits offset to bytes (b ∷ run) xs so_far in
          subst P (append_assoc bytes (b ∷ []) run) (λ n. record { well = g.well; under = g.under; nothing_more = n })
          (no_more offset to bytes b run d g.nothing_more)

  pub digits_run : (run : List ℕ) (old new : Literal) (before after : Content) (offset : ℕ) (bytes : List ℕ)
      → StandsOpen limits NumberOn levels old before start offset bytes
      → ((so_far : List ℕ) → LiteralStandsFor old so_far → LiteralStandsFor new (so_far ++ run) × BeginsNumber (so_far ++ run))
      → offset + length run ≤ limits.bytes
      → StandsOpen limits NumberOn levels new after start (offset + length run) (bytes ++ run) × Completed offset (offset + length run) (bytes ++ run) []
  digits_run run old new before after offset bytes k goes room =
      go (under_of k.well.state) refl k.keeps (sym (mode_under k.well.state NumberOn levels k.well.kept))
    where
      go : (u : Under) → under_of k.well.state ≡ u → Keeps u old before → has_number u ≡ true
          → StandsOpen limits NumberOn levels new after start (offset + length run) (bytes ++ run) × Completed offset (offset + length run) (bytes ++ run) []
      go nothing e h n = cc
      go (text so_far state) e h n = cc
      go (number so_far) e h n =
          let f = goes so_far h in
          let d = digits_well run so_far offset bytes k.well e f.1 room in
          (record { well = d.well; keeps = rw (d.under) f.0 }, d.nothing_more)

  -- the string under way after the bytes
  record AfterText (on : StringState → Mode) (from to : ℕ) (bytes run all so_far : List ℕ) (last : StringState) : Type 0 where
    pub well : StandsWell limits (on last) levels start to all
    pub under : under_of well.state ≡ text so_far last
    pub nothing_more : Completed from to all []

  -- bytes that go on in a string
  text_well : (on : StringState → Mode) → IsTextMode on
      → (run so_far characters : List ℕ) (state last : StringState) (offset : ℕ) (bytes : List ℕ) (k : StandsWell limits (on state) levels start offset bytes)
      → under_of k.state ≡ text so_far state → Reads state run characters last → offset + length run ≤ limits.bytes
      → AfterText on offset (offset + length run) bytes run (bytes ++ run) (so_far ++ characters) last
  text_well on i [] so_far characters state last offset bytes k u h room =
      let e : offset ≡ offset + 0 = omega arith in
      let P : ℕ → Type 0 = λ to. AfterText on offset to bytes [] (bytes ++ []) (so_far ++ characters) last in
      let Q : StringState → Type 0 = λ s. AfterText on offset offset bytes [] bytes so_far s in
      subst P e (rw (h.1, append-nil bytes, append-nil so_far)
      (subst Q h.0 (record { well = k; under = u; nothing_more = λ T rest t. sym (append-nil (events_by offset T)) })))
  text_well on i (b ∷ run) so_far characters state last offset bytes k u h room =
      let turn = own_turn (under_of k.state) b in
      let t = own_turns (under_of k.state) b in
      let m = i.moves state h.0 h.1 b turn (inner_of levels) (own_words (under_of k.state)) h.3 in
      let w = byte_well (on state) (on h.0) Nothing offset bytes b k turn t (omega arith) m (i.is_text state ∙ sym (i.is_text h.0)) in
      let C : Under → Type 0 = λ v. ComesFrom v b (under_of w.0.state) in
      let c : ComesFrom (text so_far state) b (under_of w.0.state) = subst C u w.1 in
      let next = came_text so_far h.1 state h.0 b h.3 (under_of w.0.state) (sym (mode_state w.0.state (on h.0) levels w.0.kept) ∙ i.state h.0) c in
      let d = byte_completes (on state) (on h.0) Nothing offset bytes b k turn t m
      (no_number (on state) turn (own_value (under_of k.state)) start (i.number state)) refl in
      let g = text_well on i run (so_far ++ h.1) h.2 h.0 last (offset + 1) (bytes ++ b ∷ []) w.0 next h.5 (omega arith) in
      let e : offset + 1 + length run ≡ offset + length (b ∷ run) = omega arith in
      let P : ℕ → Type 0 = λ to. AfterText on offset to bytes (b ∷ run) (bytes ++ (b ∷ run)) (so_far ++ characters) last in
      let Q : List ℕ → Type 0 = λ xs. AfterText on (offset + 1) (offset + 1 + length run) (bytes ++ b ∷ []) run ((bytes ++ b ∷ []) ++ run) xs last in
      let j : AfterText on (offset + 1) (offset + 1 + length run) (bytes ++ b ∷ []) run ((bytes ++ b ∷ []) ++ run) (so_far ++ characters) last =
      subst Q (append_assoc so_far h.1 h.2 ∙ ap (λ xs. so_far ++ xs) (sym h.4)) g in
      subst P e (earlier offset (offset + 1 + length run) bytes b run (so_far ++ characters) d j)
    where
      earlier : (offset to : ℕ) (bytes : List ℕ) (b : ℕ) (run so_far : List ℕ) → Completed offset (offset + 1) (bytes ++ b ∷ []) []
          → AfterText on (offset + 1) to (bytes ++ b ∷ []) run ((bytes ++ b ∷ []) ++ run) so_far last
          → AfterText on offset to bytes (b ∷ run) (bytes ++ (b ∷ run)) so_far last
      earlier offset to bytes b run so_far d g =
          let P : List ℕ → Type 0 = λ xs. Completed offset to xs [] → AfterText on offset to bytes (b ∷ run) xs so_far last in
          subst P (append_assoc bytes (b ∷ []) run) (λ n. record { well = g.well; under = g.under; nothing_more = n })
          (no_more offset to bytes b run d g.nothing_more)

  text_mode_run : (on : StringState → Mode) → IsTextMode on
      → (run characters : List ℕ) (first last : StringState) (old new : Literal) (before after : Content) (offset : ℕ) (bytes : List ℕ)
      → StandsOpen limits (on first) levels old before start offset bytes
      → Reads first run characters last → ((so_far : List ℕ) → Holds before so_far → Holds after (so_far ++ characters)) → offset + length run ≤ limits.bytes
      → StandsOpen limits (on last) levels new after start (offset + length run) (bytes ++ run) × Completed offset (offset + length run) (bytes ++ run) []
  text_mode_run on i run characters first last old new before after offset bytes k h holds room =
      go (under_of k.well.state) refl k.keeps (sym (mode_state k.well.state (on first) levels k.well.kept) ∙ i.state first)
    where
      go : (u : Under) → under_of k.well.state ≡ u → Keeps u old before → state_under u ≡ Some first
          → StandsOpen limits (on last) levels new after start (offset + length run) (bytes ++ run) × Completed offset (offset + length run) (bytes ++ run) []
      go nothing e j n = cc
      go (number so_far) e j n = cc
      go (text so_far state) e j n =
          let same : state ≡ first = cc in
          let P : StringState → Type 0 = λ s. under_of k.well.state ≡ text so_far s in
          let d = text_well on i run so_far characters first last offset bytes k.well (subst P same e) h room in
          (record { well = d.well; keeps = rw (d.under) (holds so_far j) }, d.nothing_more)

  pub text_run : (run characters : List ℕ) (first last : StringState) (mode next : Mode) (old new : Literal) (before after : Content) (offset : ℕ)
      (bytes : List ℕ) → StandsOpen limits mode levels old before start offset bytes
      → GoesOn mode first next last → Reads first run characters last → ((so_far : List ℕ) → Holds before so_far → Holds after (so_far ++ characters))
      → offset + length run ≤ limits.bytes
      → StandsOpen limits next levels new after start (offset + length run) (bytes ++ run) × Completed offset (offset + length run) (bytes ++ run) []
  text_run run characters first last mode next old new before after offset bytes k (inl m) h holds room =
      let P : Mode → Type 0 = λ x. StandsOpen limits x levels old before start offset bytes in
      let Q : Mode → Type 0 =
      λ x. StandsOpen limits x levels new after start (offset + length run) (bytes ++ run) × Completed offset (offset + length run) (bytes ++ run) [] in
      subst Q (sym m.1) (text_mode_run StringOn string_mode run characters first last old new before after offset bytes (subst P m.0 k) h holds room)
  text_run run characters first last mode next old new before after offset bytes k (inr m) h holds room =
      let P : Mode → Type 0 = λ x. StandsOpen limits x levels old before start offset bytes in
      let Q : Mode → Type 0 =
      λ x. StandsOpen limits x levels new after start (offset + length run) (bytes ++ run) × Completed offset (offset + length run) (bytes ++ run) [] in
      subst Q (sym m.1) (text_mode_run NameOn name_mode run characters first last old new before after offset bytes (subst P m.0 k) h holds room)

  pub quiet_run : (run : List ℕ) (mode last : Mode) (offset : ℕ) (bytes : List ℕ) → StandsWell limits mode levels start offset bytes
      → offset + length run ≤ limits.bytes → Leads mode run last
      → StandsWell limits last levels start (offset + length run) (bytes ++ run) × Completed offset (offset + length run) (bytes ++ run) []
  quiet_run [] mode last offset bytes k room q =
      let e : offset ≡ offset + 0 = omega arith in
      let P : ℕ → Type 0 = λ n. StandsWell limits last levels start n (bytes ++ []) in
      let Q : ℕ → Type 0 = λ n. Completed offset n (bytes ++ []) [] in
      let R : Mode → Type 0 = λ m. StandsWell limits m levels start offset bytes in
      let j = subst R q k in
      (subst P e (rw (append-nil bytes) j), subst Q e (λ T rest t. sym (append-nil (events_by offset T))))
  quiet_run (b ∷ run) mode last offset bytes k room q =
      let w = quiet_byte mode q.0 offset bytes b k (omega arith) q.1 in
      let g = quiet_run run q.0 last (offset + 1) (bytes ++ b ∷ []) w.0 (omega arith) q.2 in
      let e : offset + 1 + length run ≡ offset + length (b ∷ run) = omega arith in
      let P : ℕ → Type 0 = λ n. StandsWell limits last levels start n (bytes ++ (b ∷ run)) in
      let Q : ℕ → Type 0 = λ n. Completed offset n (bytes ++ (b ∷ run)) [] in (
        subst P e (rw (← append_assoc bytes (b ∷ []) run) g.0),
        subst Q e (no_more offset (offset + 1 + length run) bytes b run w.1 g.1),
      )

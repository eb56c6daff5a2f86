-- Whole tokens: where they lead the machine, and what they leave of a reader. Between two tokens a reader keeps nothing but
-- the mode, the levels and the offset.
use Rattle.gj_json.proofs.Common.{Allowed, Array, BegunAs, Bool, Class, Close, ColonDue, Completed, Constant, EdgeAt, Ending, Event, Exact, False}
use Rattle.gj_json.proofs.Common.{FeedsAll, FitsBroken, FitsName, Go, HasValue, InTime, IsMode, IsNumber, IsQuoted, IsString, IsText, Lands, LeafAs}
use Rattle.gj_json.proofs.Common.{Level, List, Mode, Move, NameDue, NameOn, None, Null, NumberOn, NumberTurn, Object, OfPrefix, Open, Option, Passed, Plain}
use Rattle.gj_json.proofs.Common.{Reader, Refuse, Skips, Some, StandsAs, StandsWell, StringState, TextDue, Timed, Tree, True, Turns, ValueDone}
use Rattle.gj_json.proofs.Common.{ValueDue, What, Words, after_move, ap, append_assoc, arith, awaits, begin_value, closing_of, constant, depth}
use Rattle.gj_json.proofs.Common.{done_members, drop, emitted, ending_event, event_at, events_by, false, get_or, in_number, inl, inner_of, inr}
use Rattle.gj_json.proofs.Common.{length, length-take-le, letters_after, letters_of, levels_of, map-append, mark_events, move_of, names, open_brace}
use Rattle.gj_json.proofs.Common.{open_bracket, opened, opening_of, outer_of, partial_timed, refl, run, run_from, seen, stack_timed, start_after}
use Rattle.gj_json.proofs.Common.{step, step_leaf, string, subst, sym, take_more, text_state, timed, to, true, under_of, value_of, what_of, ℕ, []}
use Rattle.gj_json.proofs.Common.{◌++◌, ◌+◌, ◌-◌, ◌<◌, ◌∙◌, ◌∷◌, ◌≡◌, ◌≤◌}
use Rattle.std.proofs.Common.{take}
use Rattle.std.proofs.Common.{append-nil}
use Rattle.std.proofs.lemmas.List.{length-append}
use Rattle.gj_json.specs.Bytes.{quote as quote_byte, close_bracket, close_brace}
use Rattle.gj_json.specs.Internal.ByteClasses.{class_of}
use Rattle.gj_json.specs.declared.class.Class.TheVariants.{White as white, OpenArray as open_array, OpenObject as open_object, Comma as comma, Quote as quote}
use Rattle.gj_json.specs.declared.class.Class.TheVariants.{NumberStart as number_start, Letter as letter, Other as other_class}
use Rattle.gj_json.specs.declared.class.Class.TheVariants.{CloseArray as close_array, CloseObject as close_object}
use Rattle.gj_json.specs.declared.mode.Mode.TheVariants.{ArrayOpened, StringOn}
use Rattle.gj_json.proofs.Readers.StepsAlike.{no_number}
use Rattle.gj_json.specs.Events.{value_events}
use Rattle.gj_json.specs.Internal.OpenLevels.{levels_in}
use Rattle.gj_json.specs.Internal.TextMachine.{Frame, Leaf, value_due, value_done, array_opened, object_opened, constant_on, number_on, string_on, name_due}
use Rattle.gj_json.specs.Internal.TextMachine.{name_on, colon_due, Partial, Member, Broken, text_due, mark_one, mark_two, begun}
use Rattle.gj_json.specs.Names.{known_of, word_of}
use Rattle.gj_number.specs.DecidedNumbers.{is_number, begins_number}
use Rattle.gj_number.proofs.Grammar.DecidedNumbers.{number as decided_number}
use Rattle.gj_json.specs.Broken.{BeginsNumber as NumberBegun}
use Rattle.gj_json.specs.Internal.QuietBytes.{Leads as LeadsOn, Reads}
use Rattle.gj_json.specs.Internal.ToldEvents.{is_on}
use Rattle.gj_json.specs.Internal.WholeTokens.{may_begin, bracket_of, end_of}
use Rattle.gj_json.specs.Internal.UnderWay.{number}
use Rattle.gj_json.proofs.Grammar.CharacterPrefixes.{StringTo}
use Rattle.gj_json.proofs.Grammar.ClassOfBytes.{class_is, starts_number, number_classes}
use Rattle.gj_json.proofs.Machine.BytesUnderWay.{mode_under, mode_state}
use Rattle.gj_json.proofs.Machine.Completions.{Goes}
use Rattle.gj_json.proofs.Readers.CallsInTurn.{live_offset, feeds_all_on, piece_all, prefix_as, rest_all, skip_feeds}
use Rattle.gj_json.proofs.Pieces.TakenFlats.{mid_of, to_mid, from_mid, is_due, value_well, seen_between}
use Rattle.gj_json.proofs.Machine.ValuePaths.{Leads, at, leads_none, leads_byte, leads_on, run_from-append}
use Rattle.gj_json.proofs.Readers.NumberUnderWay.{own_turn, own_turns, own_value, own_has, own_words, own_has_words, keeps_none}
use Rattle.gj_json.proofs.Grammar.NumberPrefixes.{number_front, number_begun, stops}
use Rattle.gj_json.proofs.Machine.ReachedStates.{reached}
use Rattle.gj_json.proofs.Readers.ReadBytes.{open_of, passed, told_by_step, completed_from}
use Rattle.gj_json.proofs.Readers.Simulation.{moves}
use Rattle.gj_json.proofs.Pieces.SkippedRuns.{leads_skips}
use Rattle.gj_json.proofs.Pieces.PieceRests.{take_all_of, more_within}
use Rattle.gj_json.proofs.Grammar.SpelledTexts.{quote_on}
use Rattle.gj_json.proofs.Events.EventsOfSteps.{Tells}
use Rattle.gj_json.proofs.Events.EventTimes.{told}
use Rattle.gj_json.proofs.Machine.ReadValues.{InQuotes, letters_lead, digits_lead, a_string, a_name, text_leads}

-- ---- between two tokens

free_number : (mode : Mode) → is_on mode ≡ false → in_number mode ≡ false
free_number NumberOn e = cc
free_number _ e = refl

free_text : (mode : Mode) → is_on mode ≡ false → text_state mode ≡ None
free_text (StringOn state) e = cc
free_text (NameOn state) e = cc
free_text _ e = refl

free_leaf : (leaf : Leaf) (mode : Mode) (start : ℕ) → is_on mode ≡ false → LeafAs leaf mode → BegunAs leaf start
free_leaf value_due mode start e a = tt
free_leaf (value_done t) mode start e a = tt
free_leaf (array_opened place) mode start e a = tt
free_leaf (object_opened place) mode start e a = tt
free_leaf (constant_on which place left) mode start e a = let x = rw (a.1) at e in cc
free_leaf (number_on place so_far) mode start e a = let x = rw a at e in cc
free_leaf (string_on place so_far state) mode start e a = let x = rw a at e in cc
free_leaf (name_due place done) mode start e a = tt
free_leaf (name_on place done np so_far state) mode start e a = let x = rw a at e in cc
free_leaf (colon_due place done np name ne) mode start e a = tt

free_edge : (s : Broken) (mode : Mode) (levels : List Level) (start other n : ℕ) → is_on mode ≡ false → StandsAs s mode levels → EdgeAt s start n
    → EdgeAt s other n
free_edge text_due mode levels start other n e a h = h
free_edge mark_one mode levels start other n e a h = h
free_edge mark_two mode levels start other n e a h = h
free_edge (begun marked s) mode levels start other n e a h = (free_leaf s.leaf mode other e a.0, h.1)

-- where nothing is under way, it does not matter where that began
freed : (limits : Allowed) (mode : Mode) (levels : List Level) (start other offset : ℕ) (bytes : List ℕ) → is_on mode ≡ false
    → StandsWell limits mode levels start offset bytes → StandsWell limits mode levels other offset bytes
freed limits mode levels start other offset bytes e k = record {
  state = k.state;
  runs = k.runs;
  fits = k.fits;
  kept = k.kept;
  at = k.at;
  within = k.within;
  timely = record { seen_by = k.timely.seen_by; edge = free_edge k.state mode levels start other offset e k.kept k.timely.edge };
}

-- bytes that lead to where nothing is under way, and these events more are complete
pub record Moved (limits : Allowed) (mode : Mode) (levels : List Level) (from to : ℕ) (bytes given : List ℕ) (es : List Event) : Type 0 where
  pub start : ℕ
  pub well : StandsWell limits mode levels start to (bytes ++ given)
  pub more : Completed from to (bytes ++ given) es

pub lands_feeds : {before after : List Event → Type 0} (old new : Reader) (given : List ℕ) (mode : Mode) (levels : List Level) (es : List Event)
    → old.fault ≡ None → Lands (length given) mode levels old new → is_on mode ≡ false
    → ((bytes : List ℕ) → StandsWell old.limits old.mode (levels_in old.levels) old.start old.offset bytes
    → Moved old.limits mode levels old.offset (old.offset + length given) bytes given es)
    → ((events : List Event) → before events → after (events ++ es)) → FeedsAll before after old new given
lands_feeds {before} {after} old new given mode levels es live p free moved heard = record {
  feeds = record {
    limits = p.limits;
    on = omega (arith, p.offset);
    stands = λ bytes h.
        let g = moved bytes (open_of old bytes live h).well in
        let w = freed old.limits mode levels g.start new.start (old.offset + length given) (bytes ++ given) free g.well in
        let keeps = keeps_none (under_of w.state) new.literal new.content (sym (mode_under w.state mode levels w.kept) ∙ free_number mode free)
        (sym (mode_state w.state mode levels w.kept) ∙ free_text mode free) in
        rw (p.fault, live, p.limits, p.mode_is, p.levels_are, p.offset) (record { well = w; keeps = keeps });
    told = λ bytes events h k.
        let n : new.offset ≡ length (bytes ++ given) = omega (arith, p.offset, live_offset old bytes live h, length-append bytes given) in
        let t : take new.offset (bytes ++ given) ≡ bytes ++ given = take_all_of (bytes ++ given) new.offset n in
        let c : Completed old.offset (old.offset + length given) (bytes ++ given) es = (moved bytes (open_of old bytes live h).well).more in
        (es, heard events k, rw (t, p.offset) c);
  };
  live = p.fault ∙ live;
  offset = p.offset;
}

-- also where the levels have changed before
pub pushed_lands : {count : ℕ} {mode : Mode} {levels : List Level} {mid new : Reader} (old : Reader) → Passed count mode mid new
    → mid.limits ≡ old.limits → mid.fault ≡ old.fault → mid.offset ≡ old.offset → levels_in mid.levels ≡ levels → Lands count mode levels old new
pushed_lands {count} old p l f o e = record {
  limits = p.limits ∙ l;
  fault = p.fault ∙ f;
  offset = p.offset ∙ ap (λ n. n + count) o;
  mode_is = p.mode_is;
  levels_are = ap levels_in p.levels ∙ e;
}

pub passed_lands : (count : ℕ) (mode : Mode) (old new : Reader) → Passed count mode old new → Lands count mode (levels_in old.levels) old new
passed_lands count mode old new p = pushed_lands old p refl refl refl refl

-- ---- one byte

module _ (limits : Allowed) (levels : List Level) (start : ℕ) where
  byte_moved : (mode next : Mode) (after : List Level) (offset : ℕ) (bytes : List ℕ) (b : ℕ) (k : StandsWell limits mode levels start offset bytes)
      (turn : NumberTurn) (value : Option Exact) (es : List Event) → Turns (under_of k.state) b turn
      → HasValue (under_of k.state) turn value → offset < limits.bytes
      → Goes (λ s. StandsAs s next after × FitsBroken limits.depth s) (step k.state (length bytes) b)
      → emitted mode turn (move_of mode turn (inner_of levels) (own_words (under_of k.state)) b) value start offset ≡ es
      → Moved limits next after offset (offset + 1) bytes (b ∷ []) es
  byte_moved mode next after offset bytes b k turn value es t v room g e = record {
    start = start_after mode start offset;
    well = go (step k.state (length bytes) b) refl g
        (told_by_step limits mode levels start offset bytes b k turn value (own_words (under_of k.state)) t v (own_has_words (under_of k.state)));
    more = (let P : List Event
        → Type 0 = λ xs. Completed offset (offset + 1) (bytes ++ b ∷ []) xs in
        subst P e (completed_from limits mode levels start offset bytes b k turn value (own_words (under_of k.state)) t v (own_has_words (under_of k.state))));
  }
    where
      found : List Event
      found = emitted mode turn (move_of mode turn (inner_of levels) (own_words (under_of k.state)) b) value start offset

      go : (o : Option Broken) → step k.state (length bytes) b ≡ o → Goes (λ s. StandsAs s next after × FitsBroken limits.depth s) o
          → Tells (seen k.state) (start_after mode start offset) offset found o
          → StandsWell limits next after (start_after mode start offset) (offset + 1) (bytes ++ b ∷ [])
      go None f h c = absurd h
      go (Some s) f h c = passed limits mode levels start offset bytes b k s next after found room f h.0 h.1 c

-- bytes that complete nothing, and then others
then_moved : (limits : Allowed) (mode : Mode) (levels : List Level) (from mid to : ℕ) (bytes xs ys : List ℕ) (es : List Event)
    → Completed from mid (bytes ++ xs) [] → Moved limits mode levels mid to (bytes ++ xs) ys es → Moved limits mode levels from to bytes (xs ++ ys) es
then_moved limits mode levels from mid to bytes xs ys es c m = record {
  start = m.start;
  well = (let P : List ℕ → Type 0 = λ zs. StandsWell limits mode levels m.start to zs in subst P (append_assoc bytes xs ys) m.well);
  more = λ T rest t.
      let u : IsText T (((bytes ++ xs) ++ ys) ++ rest) = rw (append_assoc bytes xs ys) t in
      let v : IsText T ((bytes ++ xs) ++ (ys ++ rest)) = rw (append_assoc (bytes ++ xs) ys rest) at u in
      m.more T rest u ∙ ap (λ zs. zs ++ es) (c T (ys ++ rest) v ∙ append-nil (events_by from T));
}

-- ---- the byte after a value

-- it leads to where nothing is under way, and completes nothing itself
record IsNext (next : Mode) (ending : Ending) : Type 0 where
  pub free : is_on next ≡ false
  pub nothing : (start : ℕ) → ending_event ending start ≡ None

after_next : (inner : Option Level) (c : Class) (next : Mode) (ending : Ending) → after_move inner c ≡ Go next ending → IsNext next ending
after_next inner c next ending e = go inner c (after_move inner c) refl e
  where
    free : (mode : Mode) (end : Ending) → is_on mode ≡ false → ((start : ℕ) → ending_event end start ≡ None) → Go mode end ≡ Go next ending → IsNext next ending
    free mode end f g e =
        let m : mode ≡ next = cc in
        let n : end ≡ ending = cc in
        record { free = ap is_on (sym m) ∙ f; nothing = λ start. ap (λ x. ending_event x start) (sym n) ∙ g start }

    go : (inner : Option Level) (c : Class) (made : Move) → after_move inner c ≡ made → made ≡ Go next ending → IsNext next ending
    go inner white made f e = free ValueDone Ending.Nothing refl (λ start. refl) (f ∙ e)
    go (Some Array) comma made f e = free ValueDue Ending.Item refl (λ start. refl) (f ∙ e)
    go (Some Object) comma made f e = free NameDue Ending.Item refl (λ start. refl) (f ∙ e)
    go None _ made f e = cc
    go (Some Array) _ made f e = cc
    go (Some Object) _ made f e = cc

-- a byte closes a level: after a value, or at once after the bracket that opened it
pub record Closes (mode : Mode) (inner : Option Level) (b : ℕ) (level : Level) : Type 0 where
  pub free : in_number mode ≡ false
  pub made : (turn : NumberTurn) (words : Words) → move_of mode turn inner words b ≡ Close level

pub closes_value : (mode : Mode) (inner : Option Level) (b : ℕ) (level : Level) → mode ≡ ValueDone → after_move inner (class_of b) ≡ Close level
    → Closes mode inner b level
closes_value mode inner b level m e = rw m (record { free = refl; made = λ turn words. e })

pub closes_empty : (mode : Mode) (inner : Option Level) (b : ℕ) (level : Level) → mode ≡ opened level → b ≡ end_of level → Closes mode inner b level
closes_empty mode inner b Array m e =
    rw (m, e) (record { free = refl; made = λ turn words. rw (class_is close_array close_bracket refl (λ e. cc)) refl })
closes_empty mode inner b Object m e =
    rw (m, e) (record { free = refl; made = λ turn words. rw (class_is close_object close_brace refl (λ e. cc)) refl })

module _ (limits : Allowed) (levels : List Level) (start offset : ℕ) (bytes : List ℕ) (b : ℕ) where
  pub done_go : StandsWell limits ValueDone levels start offset bytes → offset < limits.bytes → (next : Mode) (ending : Ending)
      → after_move (inner_of levels) (class_of b) ≡ Go next ending → Moved limits next levels offset (offset + 1) bytes (b ∷ []) []
  done_go k room next ending e =
      let u = under_of k.state in
      let turn = own_turn u b in
      let f = moves limits.depth k.state ValueDone turn (own_words u) levels (length bytes) b k.kept (own_turns u b) k.fits in
      byte_moved limits levels start ValueDone next levels offset bytes b k turn (own_value u) [] (own_turns u b) (own_has u turn) room (rw e at f)
      (rw (e, (after_next (inner_of levels) (class_of b) next ending e).nothing start) refl)

  pub close_well : (mode : Mode) → StandsWell limits mode levels start offset bytes → offset < limits.bytes → (level : Level)
      → Closes mode (inner_of levels) b level
      → Moved limits ValueDone (outer_of levels) offset (offset + 1) bytes (b ∷ []) (event_at offset (closing_of level) ∷ [])
  close_well mode k room level closes =
      let u = under_of k.state in
      let turn = own_turn u b in
      let e = closes.made turn (own_words u) in
      let f = moves limits.depth k.state mode turn (own_words u) levels (length bytes) b k.kept (own_turns u b) k.fits in
      byte_moved limits levels start mode ValueDone (outer_of levels) offset bytes b k turn (own_value u) (event_at offset (closing_of level) ∷ [])
      (own_turns u b) (own_has u turn) room (rw e at f) (rw (e, no_number mode turn (own_value u) start closes.free) refl)

one_byte : (piece : List ℕ) → 0 < length piece → take 1 piece ≡ get_or piece 0 0 ∷ []
one_byte piece w = take_more piece 0 0 w

well_in : (limits : Allowed) (mode other : Mode) (levels : List Level) (start offset : ℕ) (bytes : List ℕ) → mode ≡ other
    → StandsWell limits mode levels start offset bytes → StandsWell limits other levels start offset bytes
well_in limits mode other levels start offset bytes e k = let P : Mode → Type 0 = λ m. StandsWell limits m levels start offset bytes in subst P e k

pub end_goes : {heard : List Event → Type 0} (old new : Reader) (piece : List ℕ) (next : Mode) (ending : Ending) → 0 < length piece → old.fault ≡ None
    → old.mode ≡ ValueDone → old.offset + length piece ≤ old.limits.bytes
    → after_move (inner_of (levels_in old.levels)) (class_of (get_or piece 0 0)) ≡ Go next ending
    → Passed 1 next old new → FeedsAll heard heard old new (take 1 piece)
end_goes {heard} old new piece next ending some live done room e p =
    rw (one_byte piece some)
    (lands_feeds {before = heard} {after = heard} old new (get_or piece 0 0 ∷ []) next (levels_in old.levels) [] live (passed_lands 1 next old new p)
    ((after_next (inner_of (levels_in old.levels)) (class_of (get_or piece 0 0)) next ending e).free)
    (λ bytes k. done_go old.limits (levels_in old.levels) old.start old.offset bytes (get_or piece 0 0)
    (well_in old.limits old.mode ValueDone (levels_in old.levels) old.start old.offset bytes done k) (omega (arith, room, some)) next ending e)
    (λ events h. rw append-nil h))

pub end_closes : {before after : List Event → Type 0} (old new : Reader) (piece : List ℕ) (level : Level) → 0 < length piece → old.fault ≡ None
    → old.offset + length piece ≤ old.limits.bytes → Closes old.mode (inner_of (levels_in old.levels)) (get_or piece 0 0) level
    → Lands 1 ValueDone (outer_of (levels_in old.levels)) old new
    → ((events : List Event) → before events → after (events ++ event_at (old.offset + 1 - 1) (closing_of level) ∷ []))
    → FeedsAll before after old new (take 1 piece)
end_closes {before} {after} old new piece level some live room closes p heard =
    let z : old.offset + 1 - 1 ≡ old.offset = omega arith in
    rw (one_byte piece some)
    (lands_feeds {before = before} {after = after} old new (get_or piece 0 0 ∷ []) ValueDone (outer_of (levels_in old.levels))
    (event_at old.offset (closing_of level) ∷ []) live p refl
    (λ bytes k. close_well old.limits (levels_in old.levels) old.start old.offset bytes (get_or piece 0 0) old.mode k (omega (arith, room, some)) level closes)
    (λ events h. let g = heard events h in rw z at g))

-- ---- a string, a name, a literal name

reads_to : (state last : StringState) (bytes characters : List ℕ) → Reads state bytes characters last → StringTo state characters bytes last
reads_to state last [] characters h = (h.1, h.0)
reads_to state last (b ∷ bytes) characters h = (h.1, h.0, h.2, h.3, h.4, reads_to h.0 last bytes h.2 h.5)

abbrev Begins : Partial → List Frame → Type 0
Begins s stack = (n b : ℕ) (c : Class) (next : Partial) → class_of b ≡ c → begin_value stack n b c ≡ Some next → step_leaf s.stack s.leaf n b ≡ Some next

abbrev pub as_string : {content given : List ℕ} → IsQuoted content given → IsString given
as_string {content} q = record { run = content; characters = content; is = q.spelled; reads = q.reads }

string_end : (given : List ℕ) (n : ℕ) (q : IsString given) → n + 1 + length q.run + 1 ≡ n + length given
string_end given n q = omega (arith, ap length q.is, length-append q.run (quote_byte ∷ []))

-- a string or a name under way, up to its closing quote
quoted_leads : {on : List ℕ → StringState → Leaf} {over : List ℕ → ℕ → Leaf} (stack : List Frame) → InQuotes stack on over → (run content : List ℕ) (n : ℕ)
    → Reads Plain run content Plain
    → Leads (at stack (on [] Plain)) n (run ++ quote_byte ∷ []) (at stack (over content (n + length run + 1)))
quoted_leads {on} {over} stack q run content n h =
    leads_on run (quote_byte ∷ []) refl (text_leads stack q run [] content Plain Plain n (reads_to Plain Plain run content h))
    (leads_byte (q.ends content Plain (n + length run) quote_byte (quote_on quote_byte refl))
    (leads_none (at stack (over content (n + length run + 1))) (n + length run + 1)))

pub string_leads : (given : List ℕ) (n : ℕ) (q : IsString given) (s : Partial) (stack : List Frame) → Begins s stack
    → Leads s n given (at stack (value_done (string n q.characters (n + length given))))
string_leads given n q s stack begins =
    let opens : step_leaf s.stack s.leaf n quote_byte ≡ to stack (string_on n [] Plain) =
    begins n quote_byte quote (at stack (string_on n [] Plain)) (class_is quote quote_byte refl (λ e. cc)) refl in
    let all : Leads s n (quote_byte ∷ (q.run ++ quote_byte ∷ [])) (at stack (value_done (string n q.characters (n + 1 + length q.run + 1)))) =
    leads_byte opens (quoted_leads stack (a_string stack n) q.run q.characters (n + 1) q.reads) in
    let P : List ℕ → Type 0 = λ xs. Leads s n xs (at stack (value_done (string n q.characters (n + 1 + length q.run + 1)))) in
    let Q : ℕ → Type 0 = λ m. Leads s n given (at stack (value_done (string n q.characters m))) in
    subst Q (string_end given n q) (subst P (sym q.is) all)

constant_leads : (which : Constant) (given : List ℕ) (n : ℕ) → given ≡ letters_of which → (s : Partial) (stack : List Frame) → Begins s stack
    → Leads s n given (at stack (value_done (constant which n)))
constant_leads which given n e s stack begins = let P : List ℕ → Type 0 =
    λ xs. Leads s n xs (at stack (value_done (constant which n))) in subst P (sym e) (go which)
  where
    go : (which : Constant) → Leads s n (letters_of which) (at stack (value_done (constant which n)))
    go Null = leads_byte (begins n _ (letter Null) (at stack (constant_on Null n (letters_after Null))) (class_is (letter Null) _ refl (λ e. cc)) refl)
        (letters_lead stack Null n _ _ (n + 1))
    go True = leads_byte (begins n _ (letter True) (at stack (constant_on True n (letters_after True))) (class_is (letter True) _ refl (λ e. cc)) refl)
        (letters_lead stack True n _ _ (n + 1))
    go False = leads_byte (begins n _ (letter False) (at stack (constant_on False n (letters_after False))) (class_is (letter False) _ refl (λ e. cc)) refl)
        (letters_lead stack False n _ _ (n + 1))

-- a value that is no array and no object, at the start of a piece
module _ {before after : List Event → Type 0} (old new : Reader) (piece : List ℕ) (n : ℕ) (live : old.fault ≡ None) (due : awaits old.mode ≡ true)
    (room : old.offset + length piece ≤ old.limits.bytes) (w : n ≤ length piece) (p : Passed n ValueDone old new) where
  value_taken : (t : Tree) → depth t ≡ 0 → ((s : Partial) (stack : List Frame) → Begins s stack → Leads s old.offset (take n piece) (at stack (value_done t)))
      → ((events : List Event) → before events → after (events ++ value_events t))
      → FeedsAll before after old new (take n piece)
  value_taken t flat lead heard =
      let l : length (take n piece) ≡ n = length-take-le n piece w in
      let P : ℕ → Type 0 = λ m. Passed m ValueDone old new in
      lands_feeds {before = before} {after = after} old new (take n piece) ValueDone (levels_in old.levels) (value_events t) live
      (passed_lands (length (take n piece)) ValueDone old new (subst P (sym l) p)) refl
      (λ bytes k. let g = value_well old.limits (levels_in old.levels) old.start old.mode old.offset bytes k due t (take n piece) lead
      (omega (arith, flat, old.nested)) (omega (arith, l, room, w)) in record { start = old.start; well = g.well; more = g.more })
      heard

  pub text_taken : (q : IsString (take n piece))
      → ((events : List Event) → before events → after (events ++ event_at old.offset (What.Text (word_of q.characters)) ∷ []))
      → FeedsAll before after old new (take n piece)
  text_taken q heard =
      value_taken (string old.offset q.characters (old.offset + length (take n piece))) refl (string_leads (take n piece) old.offset q) heard

  pub constant_taken : (which : Constant) → take n piece ≡ letters_of which
      → ((events : List Event) → before events → after (events ++ event_at old.offset (what_of which) ∷ [])) → FeedsAll before after old new (take n piece)
  constant_taken which e heard = value_taken (constant which old.offset) refl (constant_leads which (take n piece) old.offset e) heard

-- ---- a name

-- where a name may begin: the object around it
record IsNaming (state : Broken) (levels : List Level) (d : ℕ) : Type 0 where
  pub marked : Bool
  pub partial : Partial
  pub stack : List Frame
  pub place : ℕ
  pub done : List Member
  pub is : state ≡ begun marked partial
  pub begins : (n : ℕ) → step_leaf partial.stack partial.leaf n quote_byte ≡ to stack (name_on place done n [] Plain)
  pub around : levels ≡ Object ∷ levels_of stack
  pub fits : FitsName d stack done
  pub before : partial_timed partial ≡ stack_timed stack ++ (timed (place + 1) place What.OpenObject ∷ done_members done)

leaf_naming : (marked : Bool) (stack : List Frame) (leaf : Leaf) (mode : Mode) (levels : List Level) (d : ℕ) → names mode ≡ true
    → StandsAs (begun marked (at stack leaf)) mode levels → FitsBroken d (begun marked (at stack leaf)) → IsNaming (begun marked (at stack leaf)) levels d
leaf_naming marked stack (object_opened place) mode levels d w a f = record {
  marked = marked;
  partial = at stack (object_opened place);
  stack = stack;
  place = place;
  done = [];
  is = refl;
  begins = λ n. rw (class_is quote quote_byte refl (λ e. cc)) refl;
  around = a.1;
  fits = (f.0, tt, f.1);
  before = refl;
}
leaf_naming marked stack (name_due place done) mode levels d w a f = record {
  marked = marked;
  partial = at stack (name_due place done);
  stack = stack;
  place = place;
  done = done;
  is = refl;
  begins = λ n. rw (class_is quote quote_byte refl (λ e. cc)) refl;
  around = a.1;
  fits = f;
  before = refl;
}
leaf_naming marked stack value_due mode levels d w a f = let x = rw (a.0) at w in cc
leaf_naming marked stack (array_opened place) mode levels d w a f = let x = rw (a.0) at w in cc
leaf_naming marked stack (value_done t) mode levels d w a f = let x = rw (a.0) at w in cc
leaf_naming marked stack (constant_on which place left) mode levels d w a f = let x = rw (a.0.1) at w in cc
leaf_naming marked stack other mode levels d w a f = let x = rw (a.0) at w in cc

is_naming : (state : Broken) (mode : Mode) (levels : List Level) (d : ℕ) → names mode ≡ true → StandsAs state mode levels → FitsBroken d state
    → IsNaming state levels d
is_naming text_due mode levels d w a f = let x = rw (a.0) at w in cc
is_naming mark_one mode levels d w a f = let x = rw (a.0) at w in cc
is_naming mark_two mode levels d w a f = let x = rw (a.0) at w in cc
is_naming (begun marked s) mode levels d w a f = leaf_naming marked s.stack s.leaf mode levels d w a f

name_leads : (given : List ℕ) (n place : ℕ) (done : List Member) (q : IsString given) (s : Partial) (stack : List Frame)
    → step_leaf s.stack s.leaf n quote_byte ≡ to stack (name_on place done n [] Plain)
    → Leads s n given (at stack (colon_due place done n q.characters (n + length given)))
name_leads given n place done q s stack opens =
    let all : Leads s n (quote_byte ∷ (q.run ++ quote_byte ∷ [])) (at stack (colon_due place done n q.characters (n + 1 + length q.run + 1))) =
    leads_byte opens (quoted_leads stack (a_name stack place done n) q.run q.characters (n + 1) q.reads) in
    let P : List ℕ → Type 0 = λ xs. Leads s n xs (at stack (colon_due place done n q.characters (n + 1 + length q.run + 1))) in
    let Q : ℕ → Type 0 = λ m. Leads s n given (at stack (colon_due place done n q.characters m)) in
    subst Q (string_end given n q) (subst P (sym q.is) all)

module _ (limits : Allowed) (levels : List Level) (start : ℕ) where
  name_seen : (marked : Bool) (s : Partial) (stack : List Frame) (place : ℕ) (done : List Member) (np : ℕ) (name : List ℕ) (ne : ℕ)
      → partial_timed s ≡ stack_timed stack ++ (timed (place + 1) place What.OpenObject ∷ done_members done)
      → told (seen (begun marked (at stack (colon_due place done np name ne)))) ≡ told (seen (begun marked s)) ++ event_at np (What.Name (known_of name)) ∷ []
  name_seen marked s stack place done np name ne e =
      let opening = timed (place + 1) place What.OpenObject in
      let last = timed ne np (What.Name (known_of name)) ∷ [] in
      let g : mark_events marked
      ++ (stack_timed stack ++ (opening ∷ (done_members done ++ last))) ≡ (mark_events marked ++ (stack_timed stack ++ (opening ∷ done_members done)))
      ++ last =
      ap (λ xs. mark_events marked ++ xs) (sym (append_assoc (stack_timed stack) (opening ∷ done_members done) last))
      ∙ sym (append_assoc (mark_events marked) (stack_timed stack ++ (opening ∷ done_members done)) last) in
      rw e (ap told g ∙ map-append (λ (x : Timed). x.event) (mark_events marked ++ (stack_timed stack ++ (opening ∷ done_members done))) last)

  pub name_well : (mode : Mode) (offset : ℕ) (bytes : List ℕ) (k : StandsWell limits mode levels start offset bytes) → names mode ≡ true
      → (given : List ℕ) (q : IsString given) → offset + length given ≤ limits.bytes
      → Moved limits ColonDue levels offset (offset + length given) bytes given (event_at offset (What.Name (known_of q.characters)) ∷ [])
  name_well mode offset bytes k w given q room =
      let i = is_naming k.state mode levels limits.depth w k.kept k.fits in
      let next : Broken = begun i.marked (at i.stack (colon_due i.place i.done offset q.characters (offset + length given))) in
      let l : offset + length given ≡ length (bytes ++ given) = omega (arith, k.at, length-append bytes given) in
      let z : 0 + length bytes ≡ offset = omega (arith, k.at) in
      let leads = name_leads given offset i.place i.done q i.partial i.stack (i.begins offset) in
      let runs : run (bytes ++ given) ≡ Some next =
      run_from-append bytes given (Some text_due) 0 ∙ ap (λ o. run_from o (0 + length bytes) given) (k.runs ∙ ap (λ (s : Broken). Some s) i.is)
      ∙ ap (λ n. run_from (Some (begun i.marked i.partial)) n given) z ∙ leads.goes i.marked in
      let r = reached (bytes ++ given) next runs in
      let well : StandsWell limits ColonDue levels start (offset + length given) (bytes ++ given) = record {
        state = next;
        runs = runs;
        fits = i.fits;
        kept = (refl, i.around);
        at = l;
        within = room;
        timely = record { seen_by = (let T : ℕ → Type 0 = λ m. InTime m (seen next) in subst T (sym l) r.timely.seen_by); edge = (tt, tt) };
      } in
      let es = event_at offset (What.Name (known_of q.characters)) ∷ [] in
      let P : Broken → Type 0 = λ s. told (seen next) ≡ told (seen s) ++ es in
      let seen_is : P k.state = subst P (sym i.is) (name_seen i.marked i.partial i.stack i.place i.done offset q.characters (offset + length given) i.before) in
      record { start = start; well = well; more = seen_between limits levels start mode ColonDue offset (offset + length given) bytes given k well es seen_is }

name_taken : {before after : List Event → Type 0} (old new : Reader) (piece : List ℕ) (n : ℕ) → old.fault ≡ None → names old.mode ≡ true
    → old.offset + length piece ≤ old.limits.bytes → n ≤ length piece → Passed n ColonDue old new → (q : IsString (take n piece))
    → ((events : List Event) → before events → after (events ++ event_at old.offset (What.Name (known_of q.characters)) ∷ []))
    → FeedsAll before after old new (take n piece)
name_taken {before} {after} old new piece n live due room w p q heard =
    let l : length (take n piece) ≡ n = length-take-le n piece w in
    let P : ℕ → Type 0 = λ m. Passed m ColonDue old new in
    lands_feeds {before = before} {after = after} old new (take n piece) ColonDue (levels_in old.levels)
    (event_at old.offset (What.Name (known_of q.characters)) ∷ []) live (passed_lands (length (take n piece)) ColonDue old new (subst P (sym l) p)) refl
    (λ bytes k. name_well old.limits (levels_in old.levels) old.start old.mode old.offset bytes k due (take n piece) q (omega (arith, l, room, w)))
    heard

-- ---- an opening bracket

-- where a value is awaited, one may begin
pub may_begin_due : (mode : Mode) → awaits mode ≡ true → may_begin mode ≡ true
may_begin_due ValueDue w = refl
may_begin_due ArrayOpened w = refl
may_begin_due _ w = cc

opens : (mode : Mode) → may_begin mode ≡ true → (level : Level) (turn : NumberTurn) (inner : Option Level) (words : Words)
    → move_of mode turn inner words (bracket_of level) ≡ Open level
opens TextDue w Array turn inner words = rw (class_is open_array open_bracket refl (λ e. cc)) refl
opens TextDue w Object turn inner words = rw (class_is open_object open_brace refl (λ e. cc)) refl
opens ValueDue w Array turn inner words = rw (class_is open_array open_bracket refl (λ e. cc)) refl
opens ValueDue w Object turn inner words = rw (class_is open_object open_brace refl (λ e. cc)) refl
opens ArrayOpened w Array turn inner words = rw (class_is open_array open_bracket refl (λ e. cc)) refl
opens ArrayOpened w Object turn inner words = rw (class_is open_object open_brace refl (λ e. cc)) refl
opens _ w level turn inner words = cc

begins_free : (mode : Mode) → may_begin mode ≡ true → in_number mode ≡ false
begins_free NumberOn w = cc
begins_free _ w = refl

opened_free : (level : Level) → is_on (opened level) ≡ false
opened_free Array = refl
opened_free Object = refl

fits_in : (d : ℕ) (mode : Mode) (levels : List Level) (o : Option Broken) {A : Type 0} → A → Goes (λ s. StandsAs s mode levels × (A → FitsBroken d s)) o
    → Goes (λ s. StandsAs s mode levels × FitsBroken d s) o
fits_in d mode levels None a g = g
fits_in d mode levels (Some s) a g = (g.0, g.1 a)

pub open_well : (limits : Allowed) (levels : List Level) (start : ℕ) (mode : Mode) (offset : ℕ) (bytes : List ℕ)
    → StandsWell limits mode levels start offset bytes
    → may_begin mode ≡ true → (level : Level) → offset < limits.bytes → length levels + 1 ≤ limits.depth
    → Moved limits (opened level) (level ∷ levels) offset (offset + 1) bytes (bracket_of level ∷ []) (event_at offset (opening_of level) ∷ [])
open_well limits levels start mode offset bytes k w level room deep =
    let b = bracket_of level in
    let u = under_of k.state in
    let turn = own_turn u b in
    let e = opens mode w level turn (inner_of levels) (own_words u) in
    let f = moves limits.depth k.state mode turn (own_words u) levels (length bytes) b k.kept (own_turns u b) k.fits in
    byte_moved limits levels start mode (opened level) (level ∷ levels) offset bytes b k turn (own_value u) (event_at offset (opening_of level) ∷ [])
    (own_turns u b) (own_has u turn) room (fits_in limits.depth (opened level) (level ∷ levels) (step k.state (length bytes) b) deep (rw e at f))
    (rw (e, no_number mode turn (own_value u) start (begins_free mode w)) refl)

pub open_taken : {before after : List Event → Type 0} (old new : Reader) (piece : List ℕ) (level : Level) → 0 < length piece
    → get_or piece 0 0 ≡ bracket_of level → old.fault ≡ None → may_begin old.mode ≡ true → old.offset + length piece ≤ old.limits.bytes
    → length (levels_in old.levels) < old.limits.depth
    → Lands 1 (opened level) (level ∷ levels_in old.levels) old new
    → ((events : List Event) → before events → after (events ++ event_at old.offset (opening_of level) ∷ [])) → FeedsAll before after old new (take 1 piece)
open_taken {before} {after} old new piece level some is live due room deep p heard =
    rw (one_byte piece some, is)
    (lands_feeds {before = before} {after = after} old new (bracket_of level ∷ []) (opened level) (level ∷ levels_in old.levels)
    (event_at old.offset (opening_of level) ∷ []) live p (opened_free level)
    (λ bytes k. open_well old.limits (levels_in old.levels) old.start old.mode old.offset bytes k due level (omega (arith, room, some)) (omega (arith, deep)))
    heard)

-- ---- a number, and the byte after it

number_leads : (literal : List ℕ) (n : ℕ) → NumberBegun literal → (s : Partial) (stack : List Frame) → Begins s stack
    → Leads s n literal (at stack (number_on n literal))
number_leads [] n h s stack begins = absurd (h.0 refl)
number_leads (b ∷ more) n h s stack begins =
    leads_byte (begins n b number_start (at stack (number_on n (b ∷ []))) (starts_number b (number_front (b ∷ []) more h.1)) refl)
    (digits_lead stack n more (b ∷ []) (n + 1) h.1)

awaits_free : (mode : Mode) → awaits mode ≡ true → is_on mode ≡ false
awaits_free ValueDue e = refl
awaits_free ArrayOpened e = refl
awaits_free _ e = cc

-- after the digits of a number
record Digits (limits : Allowed) (levels : List Level) (from to : ℕ) (bytes given : List ℕ) : Type 0 where
  pub well : StandsWell limits NumberOn levels from to (bytes ++ given)
  pub under : under_of well.state ≡ number given
  pub ends : is_number given ≡ true
  pub more : Completed from to (bytes ++ given) []

digits_seen : (marked : Bool) (s : Partial) (stack : List Frame) (place : ℕ) (literal : List ℕ) → partial_timed s ≡ stack_timed stack
    → told (seen (begun marked (at stack (number_on place literal)))) ≡ told (seen (begun marked s)) ++ []
digits_seen marked s stack place literal e =
    rw e (ap (λ xs. told (mark_events marked ++ xs)) (append-nil (stack_timed stack)) ∙ sym (append-nil (told (mark_events marked ++ stack_timed stack))))

digits_well : (limits : Allowed) (levels : List Level) (start : ℕ) (mode : Mode) (offset : ℕ) (bytes : List ℕ)
    → StandsWell limits mode levels start offset bytes → awaits mode ≡ true → (given : List ℕ) → IsNumber given → offset + length given ≤ limits.bytes
    → Digits limits levels offset (offset + length given) bytes given
digits_well limits levels start mode offset bytes k0 w given digits room =
    let k = freed limits mode levels start offset offset bytes (awaits_free mode w) k0 in
    let i = is_due k.state mode levels limits.depth w k.kept k.fits in
    let next : Broken = begun i.marked (at i.stack (number_on offset given)) in
    let l : offset + length given ≡ length (bytes ++ given) = omega (arith, k.at, length-append bytes given) in
    let z : 0 + length bytes ≡ offset = omega (arith, k.at) in
    let leads = number_leads given offset (number_begun given digits) i.partial i.stack i.begins in
    let runs : run (bytes ++ given) ≡ Some next =
    run_from-append bytes given (Some text_due) 0 ∙ ap (λ o. run_from o (0 + length bytes) given) (k.runs ∙ ap (λ (s : Broken). Some s) i.is)
    ∙ ap (λ n. run_from (Some (begun i.marked i.partial)) n given) z ∙ leads.goes i.marked in
    let r = reached (bytes ++ given) next runs in
    let well : StandsWell limits NumberOn levels offset (offset + length given) (bytes ++ given) = record {
      state = next;
      runs = runs;
      fits = i.fits;
      kept = (refl, i.around);
      at = l;
      within = room;
      timely = record { seen_by = (let T : ℕ → Type 0 = λ m. InTime m (seen next) in subst T (sym l) r.timely.seen_by); edge = (refl, tt) };
    } in
    let P : Broken → Type 0 = λ s. told (seen next) ≡ told (seen s) ++ [] in
    let seen_is : P k.state = subst P (sym i.is) (digits_seen i.marked i.partial i.stack offset given i.before) in
    record {
      well = well;
      under = refl;
      ends = (decided_number given).1 digits;
      more =
          seen_between limits levels offset mode NumberOn offset (offset + length given) bytes given k well [] seen_is;
    }

-- a byte that goes on after a value goes on in no number
never : (inner : Option Level) (so_far : List ℕ) (b : ℕ) → (after_move inner (class_of b) ≡ Refuse → ⊥) → begins_number (so_far ++ b ∷ []) ≡ false
never inner so_far b h = stops so_far b (λ x. elim (number_classes b x) [ inl e ↦ h (rw e (none inner).0) | inr e ↦ h (rw e (none inner).1) ])
  where
    none : (inner : Option Level) → (after_move inner number_start ≡ Refuse) × (after_move inner other_class ≡ Refuse)
    none None = (refl, refl)
    none other = (refl, refl)

module _ (limits : Allowed) (levels : List Level) (from to : ℕ) (bytes given : List ℕ) (b : ℕ) (d : Digits limits levels from to bytes given)
    (room : to < limits.bytes) (h : after_move (inner_of levels) (class_of b) ≡ Refuse → ⊥) where
  turns : Turns (under_of d.well.state) b NumberTurn.Ends
  turns = rw (d.under, never (inner_of levels) given b h, d.ends) refl

  valued : HasValue (under_of d.well.state) NumberTurn.Ends (value_of given)
  valued = rw (d.under) (λ e. refl)

  number_go : (next : Mode) (ending : Ending) → after_move (inner_of levels) (class_of b) ≡ Go next ending
      → Moved limits next levels from (to + 1) bytes (given ++ b ∷ []) (event_at from (What.Number (value_of given)) ∷ [])
  number_go next ending e =
      let u = under_of d.well.state in
      let f = moves limits.depth d.well.state NumberOn NumberTurn.Ends (own_words u) levels (length (bytes ++ given)) b d.well.kept turns d.well.fits in
      then_moved limits next levels from to (to + 1) bytes given (b ∷ []) _ d.more
      (byte_moved limits levels from NumberOn next levels to (bytes ++ given) b d.well NumberTurn.Ends (value_of given)
      (event_at from (What.Number (value_of given)) ∷ []) turns valued room (rw e at f)
      (rw (e, (after_next (inner_of levels) (class_of b) next ending e).nothing from) refl))

  number_close : (level : Level) → after_move (inner_of levels) (class_of b) ≡ Close level
      → Moved limits ValueDone (outer_of levels) from (to + 1) bytes (given ++ b ∷ [])
      (event_at from (What.Number (value_of given)) ∷ event_at to (closing_of level) ∷ [])
  number_close level e =
      let u = under_of d.well.state in
      let f = moves limits.depth d.well.state NumberOn NumberTurn.Ends (own_words u) levels (length (bytes ++ given)) b d.well.kept turns d.well.fits in
      then_moved limits ValueDone (outer_of levels) from to (to + 1) bytes given (b ∷ []) _ d.more
      (byte_moved limits levels from NumberOn ValueDone (outer_of levels) to (bytes ++ given) b d.well NumberTurn.Ends (value_of given)
      (event_at from (What.Number (value_of given)) ∷ event_at to (closing_of level) ∷ []) turns valued room (rw e at f) (rw e refl))

module _ (old new : Reader) (piece : List ℕ) (n : ℕ) (value : Option Exact) (live : old.fault ≡ None) (due : awaits old.mode ≡ true)
    (room : old.offset + length piece ≤ old.limits.bytes) (w : n < length piece)
    (digits : IsNumber (take n piece)) (has : value_of (take n piece) ≡ value) where
  with_byte : take (n + 1) piece ≡ take n piece ++ get_or piece n 0 ∷ []
  with_byte = take_more piece n 0 w

  long : length (take n piece ++ get_or piece n 0 ∷ []) ≡ n + 1
  long = omega (arith, length-append (take n piece) (get_or piece n 0 ∷ []), length-take-le n piece (omega arith))

  short : length (take n piece) ≡ n
  short = length-take-le n piece (omega arith)

  read_to : (bytes : List ℕ) → StandsWell old.limits old.mode (levels_in old.levels) old.start old.offset bytes
      → Digits old.limits (levels_in old.levels) old.offset (old.offset + length (take n piece)) bytes (take n piece)
  read_to bytes k = digits_well old.limits (levels_in old.levels) old.start old.mode old.offset bytes k due (take n piece) digits
      (omega (arith, short, room, w))

  all_to : old.offset + length (take n piece) + 1 ≡ old.offset + length (take n piece ++ get_or piece n 0 ∷ [])
  all_to = omega (arith, short, long)

  pub number_then : {before after : List Event → Type 0} (next : Mode) (ending : Ending)
      → after_move (inner_of (levels_in old.levels)) (class_of (get_or piece n 0)) ≡ Go next ending → Passed (n + 1) next old new
      → ((events : List Event) → before events → after (events ++ event_at old.offset (What.Number value) ∷ []))
      → FeedsAll before after old new (take (n + 1) piece)
  number_then {before} {after} next ending e p heard =
      let P : ℕ → Type 0 = λ m. Lands m next (levels_in old.levels) old new in
      let Q : ℕ → List ℕ → Type 0 =
      λ m bytes. Moved old.limits next (levels_in old.levels) old.offset m bytes (take n piece ++ get_or piece n 0 ∷ [])
      (event_at old.offset (What.Number (value_of (take n piece))) ∷ []) in
      rw with_byte
      (lands_feeds {before = before} {after = after} old new (take n piece ++ get_or piece n 0 ∷ []) next (levels_in old.levels)
      (event_at old.offset (What.Number (value_of (take n piece))) ∷ []) live (subst P (sym long) (passed_lands (n + 1) next old new p))
      ((after_next (inner_of (levels_in old.levels)) (class_of (get_or piece n 0)) next ending e).free)
      (λ bytes k. let R : ℕ → Type 0 = λ m. Q m bytes in
      subst R all_to (number_go old.limits (levels_in old.levels) old.offset (old.offset + length (take n piece)) bytes (take n piece) (get_or piece n 0)
      (read_to bytes k) (omega (arith, short, room, w)) (λ r. let x : Refuse ≡ Go next ending = sym r ∙ e in cc) next ending e))
      (λ events h. rw has (heard events h)))

  pub number_closed : {before after : List Event → Type 0} (level : Level)
      → after_move (inner_of (levels_in old.levels)) (class_of (get_or piece n 0)) ≡ Close level
      → Lands (n + 1) ValueDone (outer_of (levels_in old.levels)) old new
      → ((events : List Event) → before events
      → after (events ++ event_at old.offset (What.Number value) ∷ event_at (old.offset + (n + 1) - 1) (closing_of level) ∷ []))
      → FeedsAll before after old new (take (n + 1) piece)
  number_closed {before} {after} level e p heard =
      let es : ℕ → List Event = λ m. event_at old.offset (What.Number (value_of (take n piece))) ∷ event_at m (closing_of level) ∷ [] in
      let P : ℕ → Type 0 = λ m. Lands m ValueDone (outer_of (levels_in old.levels)) old new in
      let Q : ℕ → List ℕ → Type 0 =
      λ m bytes. Moved old.limits ValueDone (outer_of (levels_in old.levels)) old.offset m bytes (take n piece ++ get_or piece n 0 ∷ [])
      (es (old.offset + length (take n piece))) in
      let z : old.offset + (n + 1) - 1 ≡ old.offset + length (take n piece) = omega (arith, short) in
      rw with_byte
      (lands_feeds {before = before} {after = after} old new (take n piece ++ get_or piece n 0 ∷ []) ValueDone (outer_of (levels_in old.levels))
      (es (old.offset + length (take n piece))) live (subst P (sym long) p) refl
      (λ bytes k. let R : ℕ → Type 0 = λ m. Q m bytes in
      subst R all_to (number_close old.limits (levels_in old.levels) old.offset (old.offset + length (take n piece)) bytes (take n piece) (get_or piece n 0)
      (read_to bytes k) (omega (arith, short, room, w)) (λ r. let x : Refuse ≡ Close level = sym r ∙ e in cc) level e))
      (λ events h. let g = heard events h in rw (has, ← z) g))

-- ---- one token after another

-- a name and its colon
pub named_taken : {before after : List Event → Type 0} (old new : Reader) (piece : List ℕ) (n k : ℕ) → old.fault ≡ None → names old.mode ≡ true
    → old.offset + length piece ≤ old.limits.bytes → n ≤ length piece → (q : IsString (take n piece))
    → k ≤ length (take (length piece - n) (drop n piece)) → LeadsOn ColonDue (take k (take (length piece - n) (drop n piece))) ValueDue
    → Passed (n + k) ValueDue old new
    → ((events : List Event) → before events → after (events ++ event_at old.offset (What.Name (known_of q.characters)) ∷ []))
    → FeedsAll before after old new (take (n + k) piece)
named_taken {before} {after} old new piece n k live due room w q few leads p heard =
    let given = take k (take (length piece - n) (drop n piece)) in
    let one : IsMode ColonDue = omega arith in
    let r : old.offset + n ≤ old.limits.bytes = omega (arith, room, w) in
    let mid : Reader = mid_of old n ColonDue one r in
    let long : length given ≡ k = length-take-le k (take (length piece - n) (drop n piece)) few in
    let fed : FeedsAll before after old mid (take n piece) = name_taken old mid piece n live due room w (to_mid old n ColonDue one r) q heard in
    let skips : Skips mid new given = leads_skips mid new given k ValueDue long (from_mid old new n k (n + k) ColonDue ValueDue one r refl p) leads refl refl in
    let rest : FeedsAll after after mid new given = skip_feeds mid new given live (omega (arith, long, room, more_within piece n k w few)) skips in
    piece_all old mid new piece n k fed (rest_all mid new piece n k rest)

-- nothing, and then a token
pub nothing_then : {before middle after : List Event → Type 0} {old mid new : Reader} {piece : List ℕ} {n m : ℕ}
    → OfPrefix (FeedsAll before middle old mid) piece n → OfPrefix (FeedsAll middle after mid new) piece m → n ≡ 0
    → OfPrefix (FeedsAll before after old new) piece m
nothing_then {before} {middle} {after} {old} {mid} {new} {piece} {n} {m} f g e =
    let P : ℕ → Type 0 = λ k. FeedsAll before middle old mid (take k piece) in
    prefix_as g (λ given h. feeds_all_on old mid new [] given (subst P e f.holds) h)

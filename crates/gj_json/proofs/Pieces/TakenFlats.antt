-- An array that stands whole, taken at once: the machine goes from where it is due to where it is done, and the reader keeps
-- nothing of it but the mode and the offset.
use Rattle.gj_json.proofs.Common.{AllByRecursion, Allowed, Array, Bool, Class, Completed, Content, Elements, Ending, Event, FeedsAll, FitsBroken}
use Rattle.gj_json.proofs.Common.{Flat, Go, IsFlat, IsMode, IsQuiet, IsText, IsWhite, Keeps, Level, List, Literal, Mode, None, Passed, Reader, Skips}
use Rattle.gj_json.proofs.Common.{Some, Spells, StandsAs, StandsWell, Text, Timed, Tree, ValueDone, ValueDue, What, ap, append_assoc, arith, array}
use Rattle.gj_json.proofs.Common.{awaits, begin_value, cut, depth, drop, elements_depth, elements_events, events, events_by, flat_events, get_or}
use Rattle.gj_json.proofs.Common.{get_or-drop, inner_of, length, length-take-le, levels_of, map-append, mark_events, move_of, open_bracket}
use Rattle.gj_json.proofs.Common.{partial_timed, refl, run, run_from, seen, stack_timed, step_leaf, subst, sym, take-add, take_more, timed, to, true}
use Rattle.gj_json.proofs.Common.{under_of, ℕ, [], ◌++◌, ◌+◌, ◌-◌, ◌<◌, ◌∙◌, ◌∷◌, ◌≡◌, ◌≤◌}
use Rattle.std.proofs.Common.{length-drop, take}
use Rattle.std.proofs.Common.{append-nil}
use Rattle.std.proofs.lemmas.List.{length-append, drop-drop}
use Rattle.gj_json.specs.Bytes.{comma}
use Rattle.gj_json.specs.declared.class.Class.TheVariants.{OpenArray as open_array, Comma as comma_class, White as white_class}
use Rattle.gj_json.specs.Internal.ByteClasses.{class_of}
use Rattle.gj_json.specs.Events.{value_events}
use Rattle.gj_json.specs.Internal.OpenLevels.{levels_in}
use Rattle.gj_json.specs.Internal.TextMachine.{Frame, in_array, Leaf, value_due, value_done, array_opened, object_opened, constant_on}
use Rattle.gj_json.specs.Internal.TextMachine.{Partial, Broken, text_due, mark_one, mark_two, begun}
use Rattle.gj_json.specs.Internal.ReaderState.{Fits}
use Rattle.gj_json.proofs.Grammar.ClassOfBytes.{class_is}
use Rattle.gj_json.proofs.Machine.BytesUnderWay.{mode_under, mode_state}
use Rattle.gj_json.proofs.Machine.Completions.{Goes, TextFrom}
use Rattle.gj_json.proofs.Readers.CallsInTurn.{live_offset, feeds_all_on, skip_feeds}
use Rattle.gj_json.proofs.Machine.ValuePaths.{Leads, at, due_begins, array_begins, then_leads, byte_leads, white_leads, array_white, run_from-append}
use Rattle.gj_json.proofs.Readers.NumberUnderWay.{own_turn, own_turns, own_words, keeps_none}
use Rattle.gj_json.proofs.Events.PastEvents.{events_seen}
use Rattle.gj_json.proofs.Pieces.QuietRuns.{byte_well, byte_completes}
use Rattle.gj_json.proofs.Machine.ReachedStates.{reached}
use Rattle.gj_json.proofs.Readers.ReadBytes.{open_of}
use Rattle.gj_json.proofs.Pieces.PieceRests.{take_all_of, rest_of, more_within}
use Rattle.gj_json.proofs.Pieces.SkippedRuns.{leads_skips}
use Rattle.gj_json.proofs.Pieces.QuietModes.{quiet_leads}
use Rattle.gj_json.proofs.Machine.MachineTexts.{text_goes_on}
use Rattle.gj_json.proofs.Events.EventTimes.{told}
use Rattle.gj_json.proofs.Machine.ReadValues.{elements_lead}
use Rattle.gj_json.proofs.Readers.Simulation.{levels_length}

-- ---- the machine

array_leads : (s : Partial) (stack : List Frame) (place : ℕ) (elements : Elements) (close n : ℕ) (bytes : List ℕ)
    → step_leaf s.stack s.leaf n open_bracket ≡ to stack (array_opened n) → Spells (array place elements close) n bytes
    → Leads s n bytes (at stack (value_done (array place elements close)))
array_leads s stack place elements close n bytes opens h =
    let P : ℕ → Type 0 = λ p. Leads s n bytes (at stack (value_done (array p elements close))) in
    subst P (sym h.0) (byte_leads h.1 opens
    (λ rest k. then_leads k (white_leads (at stack (array_opened n)) (array_white stack n) k.first (n + 1) k.before)
    (elements_lead elements stack n close _ k.rest k.after)))

-- where a value may begin: what is open around it
pub record IsDue (state : Broken) (levels : List Level) (d : ℕ) : Type 0 where
  pub marked : Bool
  pub partial : Partial
  pub stack : List Frame
  pub is : state ≡ begun marked partial
  pub begins : (n b : ℕ) (c : Class) (next : Partial) → class_of b ≡ c → begin_value stack n b c ≡ Some next
      → step_leaf partial.stack partial.leaf n b ≡ Some next
  pub around : levels ≡ levels_of stack
  pub fits : Fits d stack
  pub before : partial_timed partial ≡ stack_timed stack

leaf_due : (marked : Bool) (stack : List Frame) (leaf : Leaf) (mode : Mode) (levels : List Level) (d : ℕ) → awaits mode ≡ true
    → StandsAs (begun marked (at stack leaf)) mode levels → FitsBroken d (begun marked (at stack leaf)) → IsDue (begun marked (at stack leaf)) levels d
leaf_due marked stack value_due mode levels d w a f =
    record {
      marked = marked;
      partial = at stack value_due;
      stack = stack;
      is = refl;
      begins = λ n b c next k e. rw k (due_begins stack n b c next e);
      around =
          a.1;
      fits = f;
      before = append-nil (stack_timed stack);
    }
leaf_due marked stack (array_opened place) mode levels d w a f =
    record {
      marked = marked;
      partial = at stack (array_opened place);
      stack = in_array place [] ∷ stack;
      is = refl;
      begins =
          λ n b c next k e. rw k (array_begins stack place n b c next e);
      around = a.1;
      fits = (f.0, tt, f.1);
      before = refl;
    }
leaf_due marked stack (value_done t) mode levels d w a f = let x = rw (a.0) at w in cc
leaf_due marked stack (object_opened place) mode levels d w a f = let x = rw (a.0) at w in cc
leaf_due marked stack (constant_on which place left) mode levels d w a f = let x = rw (a.0.1) at w in cc
leaf_due marked stack other mode levels d w a f = let x = rw (a.0) at w in cc

pub is_due : (state : Broken) (mode : Mode) (levels : List Level) (d : ℕ) → awaits mode ≡ true → StandsAs state mode levels → FitsBroken d state
    → IsDue state levels d
is_due text_due mode levels d w a f = let x = rw (a.0) at w in cc
is_due mark_one mode levels d w a f = let x = rw (a.0) at w in cc
is_due mark_two mode levels d w a f = let x = rw (a.0) at w in cc
is_due (begun marked s) mode levels d w a f = leaf_due marked s.stack s.leaf mode levels d w a f

-- ---- what is complete after it

module _ (limits : Allowed) (levels : List Level) (start : ℕ) where
  -- the events that a state has seen are those that are complete
  well_seen : (mode : Mode) (offset : ℕ) (bytes : List ℕ) (k : StandsWell limits mode levels start offset bytes) (T : Text) (rest : List ℕ)
      → IsText T (bytes ++ rest) → events_by offset T ≡ told (seen k.state)
  well_seen mode offset bytes k T rest t =
      let c : TextFrom T (length bytes) rest k.state =
      (let j = text_goes_on T bytes rest t in let i : Goes (TextFrom T (length bytes) rest) (Some k.state) = rw (k.runs) at j in i) in
      events_seen k.state T offset start rest k.timely (rw (k.at) c)

  -- from one state to another, by what they have seen
  pub seen_between : (mode next : Mode) (from to : ℕ) (bytes given : List ℕ) (k : StandsWell limits mode levels start from bytes)
      (w : StandsWell limits next levels start to (bytes ++ given)) (es : List Event) → told (seen w.state) ≡ told (seen k.state) ++ es
      → Completed from to (bytes ++ given) es
  seen_between mode next from to bytes given k w es e = λ T rest t.
      let u : IsText T (bytes ++ (given ++ rest)) = rw (append_assoc bytes given rest) at t in
      well_seen next to (bytes ++ given) w T rest t ∙ e ∙ ap (λ xs. xs ++ es) (sym (well_seen mode from bytes k T (given ++ rest) u))

  -- bytes after which nothing is under way but a literal name at the most, and these events more are complete
  pub record After (mode : Mode) (from to : ℕ) (bytes given : List ℕ) (es : List Event) : Type 0 where
    pub well : StandsWell limits mode levels start to (bytes ++ given)
    pub keeps : (literal : Literal) (content : Content) → Keeps (under_of well.state) literal content
    pub more : Completed from to (bytes ++ given) es

  value_seen : (marked : Bool) (s : Partial) (stack : List Frame) (t : Tree) → partial_timed s ≡ stack_timed stack
      → told (seen (begun marked (at stack (value_done t)))) ≡ told (seen (begun marked s)) ++ value_events t
  value_seen marked s stack t e =
      rw e (ap told (sym (append_assoc (mark_events marked) (stack_timed stack) (events t)))
      ∙ map-append (λ (x : Timed). x.event) (mark_events marked ++ stack_timed stack) (events t))

  -- a value that is due and stands whole
  pub value_well : (mode : Mode) (offset : ℕ) (bytes : List ℕ) (k : StandsWell limits mode levels start offset bytes) → awaits mode ≡ true
      → (t : Tree) (given : List ℕ)
      → ((s : Partial) (stack : List Frame)
      → ((n b : ℕ) (c : Class) (next : Partial) → class_of b ≡ c → begin_value stack n b c ≡ Some next → step_leaf s.stack s.leaf n b ≡ Some next)
      → Leads s offset given (at stack (value_done t)))
      → depth t + length levels ≤ limits.depth → offset + length given ≤ limits.bytes
      → After ValueDone offset (offset + length given) bytes given (value_events t)
  value_well mode offset bytes k w t given lead deep room =
      let i = is_due k.state mode levels limits.depth w k.kept k.fits in
      let next : Broken = begun i.marked (at i.stack (value_done t)) in
      let l : offset + length given ≡ length (bytes ++ given) = omega (arith, k.at, length-append bytes given) in
      let z : 0 + length bytes ≡ offset = omega (arith, k.at) in
      let leads = lead i.partial i.stack i.begins in
      let runs : run (bytes ++ given) ≡ Some next =
      run_from-append bytes given (Some text_due) 0 ∙ ap (λ o. run_from o (0 + length bytes) given) (k.runs ∙ ap (λ (s : Broken). Some s) i.is)
      ∙ ap (λ n. run_from (Some (begun i.marked i.partial)) n given) z ∙ leads.goes i.marked in
      let r = reached (bytes ++ given) next runs in
      let n : length levels ≡ length i.stack = ap length i.around ∙ levels_length i.stack in
      let well : StandsWell limits ValueDone levels start (offset + length given) (bytes ++ given) = record {
        state = next;
        runs = runs;
        fits = (omega (arith, deep, n), i.fits);
        kept = (refl, i.around);
        at = l;
        within = room;
        timely = record { seen_by = rw l r.timely.seen_by; edge = (tt, tt) };
      } in
      let P : Broken → Type 0 = λ s. told (seen next) ≡ told (seen s) ++ value_events t in
      let seen_is : P k.state = subst P (sym i.is) (value_seen i.marked i.partial i.stack t i.before) in
      record {
        well = well;
        keeps = λ literal content. tt;
        more = seen_between mode ValueDone offset (offset + length given) bytes given k well (value_events t) seen_is;
      }

  -- an array that is due and stands whole
  array_well : (mode : Mode) (offset : ℕ) (bytes : List ℕ) (k : StandsWell limits mode levels start offset bytes) → awaits mode ≡ true
      → (place : ℕ) (elements : Elements) (close : ℕ) (given : List ℕ) → Spells (array place elements close) offset given
      → elements_depth elements + 1 + length levels ≤ limits.depth → offset + length given ≤ limits.bytes
      → After ValueDone offset (offset + length given) bytes given (value_events (array place elements close))
  array_well mode offset bytes k w place elements close given spelled deep room =
      value_well mode offset bytes k w (array place elements close) given
      (λ s stack begins. array_leads s stack place elements close offset given
      (begins offset open_bracket open_array (at stack (array_opened offset)) (class_is open_array open_bracket refl (λ e. cc)) refl) spelled)
      deep room

  -- a comma after an element of an array
  comma_well : (mode : Mode) (offset : ℕ) (bytes : List ℕ) → StandsWell limits mode levels start offset bytes → mode ≡ ValueDone → inner_of levels ≡ Some Array
      → offset < limits.bytes → After ValueDue offset (offset + 1) bytes (comma ∷ []) []
  comma_well mode offset bytes k m i room =
      let turn = own_turn (under_of k.state) comma in
      let t = own_turns (under_of k.state) comma in
      let move : move_of mode turn (inner_of levels) (own_words (under_of k.state)) comma ≡ Go ValueDue Ending.Item =
      rw (m, i, class_is comma_class comma refl (λ e. cc)) refl in
      let w = byte_well limits levels start mode ValueDue Ending.Item offset bytes comma k turn t room move (rw m refl) in
      record {
        well = w.0;
        keeps = λ literal content. keeps_none (under_of w.0.state) literal content (sym (mode_under w.0.state ValueDue levels w.0.kept))
            (sym (mode_state w.0.state ValueDue levels w.0.kept));
        more = byte_completes limits levels start mode ValueDue Ending.Item offset bytes comma k turn t move (rw m refl) refl;
      }

-- ---- from reader to reader

taken_feeds : {before after : List Event → Type 0} (old new : Reader) (given : List ℕ) (mode : Mode) (es : List Event) → old.fault ≡ None
    → Passed (length given) mode old new
    → ((bytes : List ℕ) → StandsWell old.limits old.mode (levels_in old.levels) old.start old.offset bytes
    → After old.limits (levels_in old.levels) old.start mode old.offset (old.offset + length given) bytes given es)
    → ((events : List Event) → before events → after (events ++ es)) → FeedsAll before after old new given
taken_feeds {before} {after} old new given mode es live p behind heard = record {
  feeds = record {
    limits = p.limits;
    on = omega (arith, p.offset);
    stands = λ bytes h. let g = behind bytes (open_of old bytes live h).well in
        rw (p.fault, live, p.limits, p.mode_is, p.levels, p.start, p.offset) (record { well = g.well; keeps = g.keeps new.literal new.content });
    told = λ bytes events h k.
        let n : new.offset ≡ length (bytes ++ given) = omega (arith, p.offset, live_offset old bytes live h, length-append bytes given) in
        let t : take new.offset (bytes ++ given) ≡ bytes ++ given = take_all_of (bytes ++ given) new.offset n in
        let c : Completed old.offset (old.offset + length given) (bytes ++ given) es = (behind bytes (open_of old bytes live h).well).more in
        (es, heard events k, rw (t, p.offset) c);
  };
  live = p.fault ∙ live;
  offset = p.offset;
}

-- the events of an array of numbers
flat_is : (flat : Flat) (start : ℕ) (given : List ℕ) (f : IsFlat flat start given) → value_events (array flat.place f.elements flat.close) ≡ flat_events flat
flat_is flat start given f =
    let opening : Event = record { place = flat.place; what = What.OpenArray } in
    let closing : Event = record { place = flat.close; what = What.CloseArray } in
    ap (λ es. opening ∷ es)
    (map-append (λ (x : Timed). x.event) (elements_events f.elements) (timed (flat.close + 1) flat.close What.CloseArray ∷ [])
    ∙ ap (λ es. es ++ closing ∷ []) f.told)

-- where it is due
pub flat_well : (limits : Allowed) (levels : List Level) (start : ℕ) (mode : Mode) (offset : ℕ) (bytes : List ℕ)
    → StandsWell limits mode levels start offset bytes → awaits mode ≡ true → (flat : Flat) (given : List ℕ) → IsFlat flat offset given
    → length levels < limits.depth → offset + length given ≤ limits.bytes
    → After limits levels start ValueDone offset (offset + length given) bytes given (flat_events flat)
flat_well limits levels start mode offset bytes k due flat given f deep room =
    let P : List Event → Type 0 = λ es. After limits levels start ValueDone offset (offset + length given) bytes given es in
    subst P (flat_is flat offset given f)
    (array_well limits levels start mode offset bytes k due flat.place f.elements flat.close given f.spelled (omega (arith, f.flat, deep)) room)

flat_feeds : {before after : List Event → Type 0} (old new : Reader) (flat : Flat) (given : List ℕ) → old.fault ≡ None → awaits old.mode ≡ true
    → length (levels_in old.levels) < old.limits.depth → old.offset + length given ≤ old.limits.bytes → IsFlat flat old.offset given
    → Passed (length given) ValueDone old new → ((events : List Event) → before events → after (events ++ flat_events flat))
    → FeedsAll before after old new given
flat_feeds {before} {after} old new flat given live due deep room f p heard =
    let P : List Event → Type 0 = λ es. ((events : List Event) → before events → after (events ++ es)) → FeedsAll before after old new given in
    let fed : P (value_events (array flat.place f.elements flat.close)) = taken_feeds old new given ValueDone _ live p (λ bytes k.
    array_well old.limits (levels_in old.levels) old.start old.mode old.offset bytes k due flat.place f.elements flat.close given f.spelled
    (omega (arith, f.flat, deep)) room) in
    subst P (flat_is flat old.offset given f) fed heard

comma_feeds : {heard : List Event → Type 0} (old new : Reader) → old.fault ≡ None → old.mode ≡ ValueDone → inner_of (levels_in old.levels) ≡ Some Array
    → old.offset < old.limits.bytes → Passed 1 ValueDue old new → FeedsAll heard heard old new (comma ∷ [])
comma_feeds {heard} old new live done inner room p =
    taken_feeds old new (comma ∷ []) ValueDue [] live p
    (λ bytes k. comma_well old.limits (levels_in old.levels) old.start old.mode old.offset bytes k done inner room) (λ events h. rw append-nil h)

-- an array, and the comma after it
pub with_comma : {before after : List Event → Type 0} (old mid new : Reader) (piece : List ℕ) (n : ℕ) → n < length piece
    → old.offset + length piece ≤ old.limits.bytes → FeedsAll before after old mid (take n piece) → get_or piece n 0 ≡ comma → mid.mode ≡ ValueDone
    → inner_of (levels_in mid.levels) ≡ Some Array → Passed 1 ValueDue mid new → FeedsAll before after old new (take (n + 1) piece)
with_comma {before} {after} old mid new piece n w room f b done inner p =
    let e : mid.limits.bytes ≡ old.limits.bytes = ap (λ (a : Allowed). a.bytes) f.feeds.limits in
    let r : mid.offset < mid.limits.bytes = omega (arith, f.offset, length-take-le n piece (omega arith)) in
    let g : FeedsAll after after mid new (comma ∷ []) = comma_feeds mid new f.live done inner r p in
    let P : List ℕ → Type 0 = λ xs. FeedsAll before after old new xs in
    let Q : ℕ → Type 0 = λ x. P (take n piece ++ x ∷ []) in
    subst P (sym (take_more piece n 0 w)) (subst Q (sym b) (feeds_all_on old mid new (take n piece) (comma ∷ []) f g))

-- an array at the start of a piece
pub flat_taken : {before after : List Event → Type 0} (old new : Reader) (flat : Flat) (piece : List ℕ) (n : ℕ) → old.fault ≡ None → awaits old.mode ≡ true
    → length (levels_in old.levels) < old.limits.depth → old.offset + length piece ≤ old.limits.bytes → n ≤ length piece
    → IsFlat flat old.offset (take n piece) → Passed n ValueDone old new → ((events : List Event) → before events → after (events ++ flat_events flat))
    → FeedsAll before after old new (take n piece)
flat_taken old new flat piece n live due deep room w f p heard =
    let l : length (take n piece) ≡ n = length-take-le n piece w in
    let P : ℕ → Type 0 = λ m. Passed m ValueDone old new in
    flat_feeds old new flat (take n piece) live due deep (omega (arith, l)) f (subst P (sym l) p) heard

-- ---- with the comma after it and the white space after that, in one step

-- the reader, where so many bytes more were passed over
abbrev pub mid_of : (old : Reader) (n : ℕ) (mode : Mode) → IsMode mode → old.offset + n ≤ old.limits.bytes → Reader
mid_of old n mode sound room = record {
  limits = old.limits;
  offset = old.offset + n;
  start = old.start;
  levels = old.levels;
  literal = old.literal;
  content = old.content;
  mode = mode;
  fault = old.fault;
  names = old.names;
  positions = old.positions;
  alone = old.alone;
  sound = sound;
  within = room;
  small = old.small;
  nested = old.nested;
}

pub to_mid : (old : Reader) (n : ℕ) (mode : Mode) (sound : IsMode mode) (room : old.offset + n ≤ old.limits.bytes)
    → Passed n mode old (mid_of old n mode sound room)
to_mid old n mode sound room =
    record { limits = refl; fault = refl; levels = refl; start = refl; literal = refl; content = refl; offset = refl; mode_is = refl }

pub from_mid : (old new : Reader) (n k all : ℕ) (mode next : Mode) (sound : IsMode mode) (room : old.offset + n ≤ old.limits.bytes) → all ≡ n + k
    → Passed all next old new → Passed k next (mid_of old n mode sound room) new
from_mid old new n k all mode next sound room e p = record {
  limits = p.limits;
  fault = p.fault;
  levels = p.levels;
  start = p.start;
  literal = p.literal;
  content = p.content;
  offset = (let o = p.offset in omega arith);
  mode_is = p.mode_is;
}

pub all_quiet : (xs : List ℕ) → AllByRecursion IsWhite xs → AllByRecursion (IsQuiet ValueDue) xs
all_quiet [] h = tt
all_quiet (x ∷ xs) h = (record { moves = λ turn inner words. rw (class_is white_class x h.0 (λ e. cc)) refl; on = refl }, all_quiet xs h.1)

pub comma_taken : {before after : List Event → Type 0} (old new : Reader) (flat : Flat) (piece : List ℕ) (n k : ℕ) → old.fault ≡ None → awaits old.mode ≡ true
    → length (levels_in old.levels) < old.limits.depth → old.offset + length piece ≤ old.limits.bytes → n ≤ length piece
    → IsFlat flat old.offset (take n piece) → 0 < k → k ≤ length (take (length piece - n) (drop n piece))
    → get_or (take (length piece - n) (drop n piece)) 0 0 ≡ comma → AllByRecursion IsWhite (cut (take (length piece - n) (drop n piece)) 1 k)
    → inner_of (levels_in old.levels) ≡ Some Array → Passed (n + k) ValueDue old new
    → ((events : List Event) → before events → after (events ++ flat_events flat)) → FeedsAll before after old new (take (n + k) piece)
comma_taken {before} {after} old new flat piece n k live due deep room w f some few byte white inner p heard =
    let in_piece : n + k ≤ length piece = more_within piece n k w few in
    let z : n + 0 ≡ n = omega arith in
    let here : get_or piece n 0 ≡ comma =
    ap (λ i. get_or piece i 0) (sym z) ∙ sym (get_or-drop n piece 0 0) ∙ ap (λ xs. get_or xs 0 0) (sym (rest_of piece n)) ∙ byte in
    let given : List ℕ = take (k - 1) (drop (n + 1) piece) in
    let same : cut (take (length piece - n) (drop n piece)) 1 k ≡ given =
    ap (λ xs. cut xs 1 k) (rest_of piece n) ∙ ap (λ xs. take (k - 1) xs) (drop-drop 1 n piece) in
    let P : List ℕ → Type 0 = λ xs. AllByRecursion IsWhite xs in
    let one : IsMode ValueDone = omega arith in
    let two : IsMode ValueDue = omega arith in
    let r : old.offset + n ≤ old.limits.bytes = omega arith in
    let q : old.offset + (n + 1) ≤ old.limits.bytes = omega arith in
    let mid : Reader = mid_of old n ValueDone one r in
    let next : Reader = mid_of old (n + 1) ValueDue two q in
    let fed : FeedsAll before after old mid (take n piece) = flat_taken old mid flat piece n live due deep room w f (to_mid old n ValueDone one r) heard in
    let on : FeedsAll before after old next (take (n + 1) piece) =
    with_comma old mid next piece n (omega arith) room fed here refl inner
    (from_mid old next n 1 (n + 1) ValueDone ValueDue one r refl (to_mid old (n + 1) ValueDue two q)) in
    let long : length given ≡ k - 1 = length-take-le (k - 1) (drop (n + 1) piece) (omega (arith, length-drop (n + 1) piece)) in
    let skips : Skips next new given =
    leads_skips next new given (k - 1) ValueDue long (from_mid old new (n + 1) (k - 1) (n + k) ValueDue ValueDue two q (omega arith) p)
    (quiet_leads ValueDue given (all_quiet given (subst P same white))) refl refl in
    let rest : FeedsAll after after next new given = skip_feeds next new given live (omega (arith, long)) skips in
    let e : n + k ≡ n + 1 + (k - 1) = omega arith in
    let Q : List ℕ → Type 0 = λ xs. FeedsAll before after old new xs in
    subst Q (sym (ap (λ m. take m piece) e ∙ take-add (n + 1) (k - 1) piece)) (feeds_all_on old next new (take (n + 1) piece) given on rest)

-- What a byte leaves and answers.
use Rattle.gj_json.proofs.Common.{Allowed, Applied, Cause, Close, Completed, Depth, Event, Exact, FitsBroken, Go, HasValue, HasWords, IsRefusal}
use Rattle.gj_json.proofs.Common.{IsText, IsViable, IsViableWithin, JsonFault, Keeps, Length, Level, List, Mode, Move, None, NumberTurn, Ok, Open}
use Rattle.gj_json.proofs.Common.{Option, PassesTo, Reader, Refuse, RefusedFor, RefusesWith, Result, Some, StandsAs, StandsFor, StandsOpen}
use Rattle.gj_json.proofs.Common.{StandsRefused, StandsWell, Syntax, Takes, Text, Timed, Truncated, Turns, ValueDone, Words, ap, append_assoc, arith}
use Rattle.gj_json.proofs.Common.{emitted, eqb_tells, events_by, inl, inner_of, inr, length, map-append, move_by, move_of, opened, outer_of, refl}
use Rattle.gj_json.proofs.Common.{run, run_from, seen, start_after, step, subst, sym, told_by, under_of, words_in, ℕ, [], ◌++◌, ◌+◌, ◌<◌, ◌∙◌, ◌∷◌}
use Rattle.gj_json.proofs.Common.{◌≡◌, ◌≤◌}
use Rattle.std.proofs.lemmas.List.{length-append}
use Rattle.gj_json.specs.Refusal.{Stops, IsByByte}
use Rattle.gj_json.specs.Internal.OpenLevels.{levels_in}
use Rattle.gj_json.specs.Internal.TextMachine.{Broken, text_due, mark_one, mark_two, begun}
use Rattle.gj_json.specs.Reader.{Answers}
use Rattle.gj_json.specs.Internal.UnderWay.{LiteralSays, LiteralGoes, ContentGoes}
use Rattle.gj_json.proofs.Machine.BytesUnderWay.{CameTo, step_came, mode_under, mode_state}
use Rattle.gj_json.proofs.Readers.NumberUnderWay.{turns_by, keeps_on, words_by}
use Rattle.gj_json.proofs.Machine.Completions.{Goes, TextFrom}
use Rattle.gj_json.proofs.Machine.MachineTexts.{text_goes_on}
use Rattle.gj_json.proofs.Machine.StepsOfCompletions.{forward}
use Rattle.gj_json.proofs.Machine.CompletableStates.{FitsRun, viable_fits, fits_viable}
use Rattle.gj_json.proofs.Readers.Simulation.{Follows, moves}
use Rattle.gj_json.proofs.Machine.DepthLimits.{broken_deeper, leaf_levels}
use Rattle.gj_json.proofs.Events.OpenContainers.{levels_with-length}
use Rattle.gj_json.proofs.Events.PastEvents.{events_seen}
use Rattle.gj_json.proofs.Events.EventsOfSteps.{all_at, Tells, step_tells, timely_on, told-all_at}
use Rattle.gj_json.proofs.Events.EventTimes.{told}

run_from-push : (bytes : List ℕ) (b : ℕ) (o : Option Broken) (n : ℕ) (s : Broken) → run_from o n bytes ≡ Some s
    → run_from o n (bytes ++ b ∷ []) ≡ step s (n + length bytes) b
run_from-push [] b None n s e = cc
run_from-push [] b (Some t) n s e = let f : t ≡ s = cc in let k : n ≡ n + 0 = omega arith in rw (f, ← k) refl
run_from-push (c ∷ bytes) b None n s e = cc
run_from-push (c ∷ bytes) b (Some t) n s e = let k : n + 1 + length bytes ≡ n + length (c ∷ bytes) =
    omega arith in run_from-push bytes b (step t n c) (n + 1) s e ∙ ap (λ m. step s m b) k

pub run-push : (bytes : List ℕ) (b : ℕ) (s : Broken) → run bytes ≡ Some s → run (bytes ++ b ∷ []) ≡ step s (length bytes) b
run-push bytes b s e = let k : 0 + length bytes ≡ length bytes = omega arith in run_from-push bytes b (Some text_due) 0 s e ∙ ap (λ m. step s m b) k

-- a state that these bytes lead to, within a depth
pub well_viable : (d : ℕ) (bytes : List ℕ) (s : Broken) → run bytes ≡ Some s → FitsBroken d s → IsViableWithin d bytes
well_viable d bytes s e f = fits_viable d bytes (rw e f)

pub some_viable : (d : ℕ) (bytes : List ℕ) (s : Broken) → run bytes ≡ Some s → FitsBroken d s → IsViable bytes
some_viable d bytes s e f = let g = well_viable d bytes s e f in (g.0, g.1, g.2.0)

pub none_viable : (bytes : List ℕ) → run bytes ≡ None → IsViable bytes → ⊥
none_viable bytes e h = let g = text_goes_on h.1 bytes h.0 h.2 in let k : Goes (TextFrom h.1 (length bytes) h.0) None = rw e at g in k

-- ---- a refusal lasts

last_stop : (limits : Allowed) (bytes more : List ℕ) (place : ℕ) → Stops limits bytes place → Stops limits (bytes ++ more) place
last_stop limits bytes more place s =
    record {
      good = s.good;
      byte = s.byte;
      rest = s.rest ++ more;
      split = ap (λ xs. xs ++ more) s.split ∙ append_assoc s.good (s.byte ∷ s.rest) more;
      at =
          s.at;
      viable = s.viable;
    }

pub lasts : (limits : Allowed) (bytes more : List ℕ) (cause : Cause) (place : ℕ) → IsByByte cause → RefusedFor cause limits bytes place
    → RefusedFor cause limits (bytes ++ more) place
unfolding last_stop
lasts limits bytes more Syntax place y h = (last_stop limits bytes more place h.0, h.1, h.2)
lasts limits bytes more Depth place y h = (last_stop limits bytes more place h.0, h.1, h.2, h.3)
lasts limits bytes more Length place y h = (last_stop limits bytes more place h.0, h.1)
lasts limits bytes more Truncated place y h = absurd y

-- ---- a byte, from what the reader keeps

module _ (limits : Allowed) (mode : Mode) (levels : List Level) (start offset : ℕ) (bytes : List ℕ) (b : ℕ) where
  abbrev Old : Type 0
  Old = StandsWell limits mode levels start offset bytes

  pub stop : Old → Stops limits (bytes ++ b ∷ []) offset
  stop k = record { good = bytes; byte = b; rest = []; split = refl; at = k.at; viable = well_viable limits.depth bytes k.state k.runs k.fits }

  syntax_refused : (k : Old) → offset < limits.bytes → step k.state (length bytes) b ≡ None → RefusedFor Syntax limits (bytes ++ b ∷ []) offset
  unfolding stop
  syntax_refused k room e = (stop k, room, none_viable (bytes ++ b ∷ []) (run-push bytes b k.state k.runs ∙ e))

  too_deep : (next : Broken) (inner : Mode) (level : Level) → run (bytes ++ b ∷ []) ≡ Some next → StandsAs next inner (level ∷ levels)
      → length levels ≡ limits.depth → IsViableWithin limits.depth (bytes ++ b ∷ []) → ⊥
  too_deep text_due inner level e a l v = cc (a.1)
  too_deep mark_one inner level e a l v = cc (a.1)
  too_deep mark_two inner level e a l v = cc (a.1)
  too_deep (begun marked s) inner level e a l v =
      let g = viable_fits limits.depth (bytes ++ b ∷ []) v in
      let f : FitsBroken limits.depth (begun marked s) = (let k : FitsRun limits.depth (Some (begun marked s)) = rw e at g in k) in
      omega (arith, leaf_levels limits.depth s.stack s.leaf f, ap length a.1, levels_with-length s.leaf s.stack)

  depth_refused : (k : Old) (next : Broken) (inner : Mode) (level : Level) → offset < limits.bytes → step k.state (length bytes) b ≡ Some next
      → StandsAs next inner (level ∷ levels) → length levels ≡ limits.depth → FitsBroken (limits.depth + 1) next
      → RefusedFor Depth limits (bytes ++ b ∷ []) offset
  unfolding stop
  depth_refused k next inner level room e a l f =
      let r = run-push bytes b k.state k.runs ∙ e in
      (stop k, room, some_viable (limits.depth + 1) (bytes ++ b ∷ []) next r f, too_deep next inner level r a l)

  -- the state after a byte that passes
  unfoldable pub passed : (k : Old) (next : Broken) (mode' : Mode) (levels' : List Level) (es : List Event) → offset < limits.bytes
      → step k.state (length bytes) b ≡ Some next → StandsAs next mode' levels' → FitsBroken limits.depth next
      → Tells (seen k.state) (start_after mode start offset) offset es (Some next)
      → StandsWell limits mode' levels' (start_after mode start offset) (offset + 1) (bytes ++ b ∷ [])
  passed k next mode' levels' es room e a f t =
      let l : length (bytes ++ b ∷ []) ≡ length bytes + 1 = omega (arith, length-append bytes (b ∷ [])) in
      record {
        state = next;
        runs = run-push bytes b k.state k.runs ∙ e;
        fits = f;
        kept = a;
        at = omega (arith, k.at);
        within = omega arith;
        timely = timely_on (seen k.state) (start_after mode start offset) offset es next k.timely.seen_by t;
      }

  pub told_by_step : (k : Old) (turn : NumberTurn) (value : Option Exact) (words : Words) → Turns (under_of k.state) b turn
      → HasValue (under_of k.state) turn value → HasWords (under_of k.state) words
      → Tells (seen k.state) (start_after mode start offset) offset (emitted mode turn (move_of mode turn (inner_of levels) words b) value start offset)
      (step k.state (length bytes) b)
  told_by_step k turn value words t v x = let e : length bytes ≡ offset =
      sym k.at in rw e (step_tells value words k.state mode turn levels start offset b k.kept t v x k.timely.edge)

-- ---- a byte, from reader to reader

pub open_of : (reader : Reader) (bytes : List ℕ) → reader.fault ≡ None → StandsFor reader bytes
    → StandsOpen reader.limits reader.mode (levels_in reader.levels) reader.literal reader.content reader.start reader.offset bytes
open_of reader bytes live h = rw live at h

pub well_of : (reader : Reader) (bytes : List ℕ) → reader.fault ≡ None → StandsFor reader bytes
    → StandsWell reader.limits reader.mode (levels_in reader.levels) reader.start reader.offset bytes
well_of reader bytes live h = (open_of reader bytes live h).well

-- what is kept of the number under way after the byte
next_keeps : (old new : Reader) (b : ℕ) (bytes : List ℕ)
    (k : StandsOpen old.limits old.mode (levels_in old.levels) old.literal old.content old.start old.offset bytes) (turn : NumberTurn)
    → Turns (under_of k.well.state) b turn → LiteralGoes old new b turn → ContentGoes old new b
    → (next : Broken) (mode : Mode) (levels : List Level) → step k.well.state (length bytes) b ≡ Some next → StandsAs next mode levels → new.mode ≡ mode
    → Keeps (under_of next) new.literal new.content
next_keeps old new b bytes k turn t g w next mode levels e a m =
    let c : CameTo (under_of k.well.state) b (Some next) = (let j = step_came k.well.state (length bytes) b in rw e at j) in
    keeps_on (under_of k.well.state) (under_of next) old new b turn c k.keeps t g w (mode_under k.well.state old.mode (levels_in old.levels) k.well.kept)
    (rw m (mode_under next mode levels a))
    (mode_state k.well.state old.mode (levels_in old.levels) k.well.kept) (rw m (mode_state next mode levels a))

passes_on : (old new : Reader) (b : ℕ) (bytes : List ℕ) (made : Move) (mode : Mode) (levels : List Level) (result : Result Move JsonFault) → old.fault ≡ None
    → PassesTo made mode levels old new result
    → (w : StandsWell old.limits mode levels (start_after old.mode old.start old.offset) (old.offset + 1) (bytes ++ b ∷ []))
    → Keeps (under_of w.state) new.literal new.content → StandsFor new (bytes ++ b ∷ []) × Answers old.limits (bytes ++ b ∷ []) result
passes_on old new b bytes made mode levels result live p w keeps = (
  rw (p.passes.fault, live, p.passes.limits, p.passes.mode_is, p.passes.levels_are, p.passes.start, p.passes.offset) (record { well = w; keeps = keeps }),
  rw (p.answer) (well_viable old.limits.depth (bytes ++ b ∷ []) w.state w.runs w.fits, omega (arith, w.at, w.within)),
)

pub refuses_on : {A : Type 0} (old new : Reader) (b : ℕ) (bytes : List ℕ) (cause : Cause) (result : Result A JsonFault)
    → StandsWell old.limits old.mode (levels_in old.levels) old.start old.offset bytes → RefusesWith cause old new result
    → IsByByte cause → RefusedFor cause old.limits (bytes ++ b ∷ []) old.offset → StandsFor new (bytes ++ b ∷ []) × Answers old.limits (bytes ++ b ∷ []) result
refuses_on old new b bytes cause result w r y f =
    let i : IsByByte r.fault.cause = rw (r.refused.cause_is) y in
    let g : IsRefusal old.limits (bytes ++ b ∷ []) r.fault = rw (r.refused.cause_is, r.refused.place) f in
    let k : StandsRefused old.limits r.fault old.mode (levels_in old.levels) old.start old.offset (bytes ++ b ∷ []) =
    record { by_byte = i; refusal = g; place = r.refused.place; taken = bytes; rest = b ∷ []; split = refl; well = w } in (
      rw (r.refused.kept, r.refused.limits, r.refused.mode_is, r.refused.levels_are, r.refused.start, r.refused.offset) k,
      rw (r.answer)
          (g, λ more. lasts old.limits (bytes ++ b ∷ []) more r.fault.cause r.fault.place i g),
    )

module _ (old new : Reader) (b : ℕ) (bytes : List ℕ) (result : Result Move JsonFault) (live : old.fault ≡ None) (room : old.offset < old.limits.bytes)
    (nested : length (levels_in old.levels) ≤ old.limits.depth)
    (turn : NumberTurn) (goes : (made : Move) → result ≡ Ok made → LiteralGoes old new b turn × ContentGoes old new b)
    (k : StandsOpen old.limits old.mode (levels_in old.levels) old.literal old.content old.start old.offset bytes)
    (turns : Turns (under_of k.well.state) b turn) where
  abbrev Answer : Type 0
  Answer = StandsFor new (bytes ++ b ∷ []) × Answers old.limits (bytes ++ b ∷ []) result

  -- a byte that passes
  goes_on : (made : Move) (es : List Event) (next : Broken) (mode : Mode) (levels : List Level) → step k.well.state (length bytes) b ≡ Some next
      → PassesTo made mode levels old new result → StandsAs next mode levels → FitsBroken old.limits.depth next
      → Tells (seen k.well.state) (start_after old.mode old.start old.offset) old.offset es (Some next) → Answer
  unfolding passed
  goes_on made es next mode levels e w a f t =
      passes_on old new b bytes made mode levels result live w
      (passed old.limits old.mode (levels_in old.levels) old.start old.offset bytes b k.well next mode levels es room e a f t)
      (next_keeps old new b bytes k turn turns (goes made w.answer).0 (goes made w.answer).1 next mode levels e a w.passes.mode_is)

  answered : (made : Move) (es : List Event) (o : Option Broken) → step k.well.state (length bytes) b ≡ o → Applied made old new result
      → Follows old.limits.depth (levels_in old.levels) made o
      → Follows (old.limits.depth + 1) (levels_in old.levels) made o → Tells (seen k.well.state) (start_after old.mode old.start old.offset) old.offset es o
      → Answer
  answered Refuse es o e w h g t =
      refuses_on old new b bytes Syntax result k.well w tt
      (syntax_refused old.limits old.mode (levels_in old.levels) old.start old.offset bytes b k.well room (e ∙ h))
  answered (Go mode ending) es None e w h g t = absurd h
  answered (Go mode ending) es (Some next) e w h g t = goes_on (Go mode ending) es next mode (levels_in old.levels) e w h.0 h.1 t
  answered (Open level) es None e w h g t = absurd h
  answered (Open level) es (Some next) e w h g t = elim (eqb_tells (length (levels_in old.levels)) old.limits.depth) [
    | inl u ↦ refuses_on old new b bytes Depth result k.well (w.0 u.1) tt
        (depth_refused old.limits old.mode (levels_in old.levels) old.start old.offset bytes b k.well next (opened level) level room e h.0 u.1
        (g.1 (omega (arith, u.1))))
    | inr u ↦ (let less : length (levels_in old.levels) < old.limits.depth = omega (arith, u.1) in
        goes_on (Open level) es next (opened level) (level ∷ levels_in old.levels) e (w.1 less) h.0 (h.1 (omega arith)) t)
  ]
  answered (Close level) es None e w h g t = absurd h
  answered (Close level) es (Some next) e w h g t = goes_on (Close level) es next ValueDone (outer_of (levels_in old.levels)) e w h.0 h.1 t

-- what is under way, by what the literal says
pub says : (old : Reader) (b : ℕ) (bytes : List ℕ) (turn : NumberTurn) (value : Option Exact) → LiteralSays old b turn value
    → (k : StandsOpen old.limits old.mode (levels_in old.levels) old.literal old.content old.start old.offset bytes)
    → Turns (under_of k.well.state) b turn × HasValue (under_of k.well.state) turn value
says old b bytes turn value s k =
    turns_by (under_of k.well.state) old b turn value s k.keeps (mode_under k.well.state old.mode (levels_in old.levels) k.well.kept)

pub pushed : {before after : List Event → Type 0} (old new : Reader) (b : ℕ) (bytes : List ℕ) (result : Result Move JsonFault) → old.fault ≡ None
    → old.offset < old.limits.bytes → length (levels_in old.levels) ≤ old.limits.depth
    → Takes before after old new b result → StandsFor old bytes → StandsFor new (bytes ++ b ∷ []) × Answers old.limits (bytes ++ b ∷ []) result
pushed old new b bytes result live room nested w h =
    let k = open_of old bytes live h in
    let s = says old b bytes w.turn w.value w.says k in
    answered old new b bytes result live room nested w.turn w.goes k s.0 (move_by old w.turn b) (told_by old w.turn w.value b)
    (step k.well.state (length bytes) b) refl w.applied
    (moves old.limits.depth k.well.state old.mode w.turn (words_in old.content) (levels_in old.levels) (length bytes) b k.well.kept s.0 k.well.fits)
    (moves (old.limits.depth + 1) k.well.state old.mode w.turn (words_in old.content) (levels_in old.levels) (length bytes) b k.well.kept s.0
    (broken_deeper old.limits.depth k.well.state k.well.fits))
    (told_by_step old.limits old.mode (levels_in old.levels) old.start old.offset bytes b k.well w.turn w.value (words_in old.content) s.0 s.1
    (words_by (under_of k.well.state) old.literal old.content k.keeps))

-- ---- the events of a byte

completed_by : (limits : Allowed) (mode : Mode) (levels : List Level) (start offset : ℕ) (bytes : List ℕ) (b : ℕ)
    (k : StandsWell limits mode levels start offset bytes) (T : Text) (rest : List ℕ) (es : List Event) (o : Option Broken)
    → events_by offset T ≡ told (seen k.state) → Goes (TextFrom T (offset + 1) rest) o → Tells (seen k.state) (start_after mode start offset) offset es o
    → events_by (offset + 1) T ≡ events_by offset T ++ es
completed_by limits mode levels start offset bytes b k T rest es None before c t = absurd c
completed_by limits mode levels start offset bytes b k T rest es (Some s) before c t =
    let i = timely_on (seen k.state) (start_after mode start offset) offset es s k.timely.seen_by t in
    events_seen s T (offset + 1) (start_after mode start offset) rest i c ∙ ap told t.0
    ∙ map-append (λ (x : Timed). x.event) (seen k.state) (all_at (offset + 1) es)
    ∙ ap (λ xs. told (seen k.state) ++ xs) (told-all_at (offset + 1) es) ∙ ap (λ xs. xs ++ es) (sym before)

pub completed_from : (limits : Allowed) (mode : Mode) (levels : List Level) (start offset : ℕ) (bytes : List ℕ) (b : ℕ)
    (k : StandsWell limits mode levels start offset bytes) (turn : NumberTurn) (value : Option Exact) (words : Words)
    → Turns (under_of k.state) b turn → HasValue (under_of k.state) turn value → HasWords (under_of k.state) words
    → Completed offset (offset + 1) (bytes ++ b ∷ []) (emitted mode turn (move_of mode turn (inner_of levels) words b) value start offset)
completed_from limits mode levels start offset bytes b k turn value words d v x = λ T rest t.
    let u : IsText T (bytes ++ (b ∷ rest)) = rw append_assoc at t in
    let c : TextFrom T (length bytes) (b ∷ rest) k.state =
    (let j = text_goes_on T bytes (b ∷ rest) u in let i : Goes (TextFrom T (length bytes) (b ∷ rest)) (Some k.state) = rw (k.runs) at j in i) in
    let P : ℕ → Type 0 = λ n. TextFrom T n (b ∷ rest) k.state in
    let e : length bytes ≡ offset = sym k.at in
    let R : ℕ → Type 0 = λ n. Goes (TextFrom T (offset + 1) rest) (step k.state n b) in
    completed_by limits mode levels start offset bytes b k T rest (emitted mode turn (move_of mode turn (inner_of levels) words b) value start offset)
    (step k.state (length bytes) b)
    (events_seen k.state T offset start (b ∷ rest) k.timely (subst P e c)) (subst R k.at (forward k.state T offset b rest (subst P e c)))
    (told_by_step limits mode levels start offset bytes b k turn value words d v x)

pub completed : (old : Reader) (b : ℕ) (bytes : List ℕ) (turn : NumberTurn) (value : Option Exact) → LiteralSays old b turn value → old.fault ≡ None
    → StandsFor old bytes → Completed old.offset (old.offset + 1) (bytes ++ b ∷ []) (told_by old turn value b)
completed old b bytes turn value s live h =
    let k = open_of old bytes live h in
    let d = says old b bytes turn value s k in
    completed_from old.limits old.mode (levels_in old.levels) old.start old.offset bytes b k.well turn value (words_in old.content) d.0 d.1
    (words_by (under_of k.well.state) old.literal old.content k.keeps)

-- What a call leaves stands for the events of an array of numbers more.
use Rattle.gj_rules.proofs.Common.{AllByRecursion, Bool, Core, Event, False, Fed, Feed, Findings, Flat, Frame, FramedRules, Holds, List, Mode, Null}
use Rattle.gj_rules.proofs.Common.{Numbered, Stands, State, Told, Tree, True, What, ap, append_assoc, array, constant, core_of, depth}
use Rattle.gj_rules.proofs.Common.{elements_events, event_of, false, flat_events, flats_events, idle, inl, inr, is_feeding, map, map-append}
use Rattle.gj_rules.proofs.Common.{members_events, most_levels, number, number_event, numbers_of, object, refl, run, start, step, string, subst, sym}
use Rattle.gj_rules.proofs.Common.{text_told, timed, top_of, true, value_events, [], ◌++◌, ◌+◌, ◌<◌, ◌^◌, ◌∙◌, ◌∷◌, ◌≤◌, ◌⊎◌}
use Rattle.std.proofs.Common.{◌≡◌, ℕ}
use Rattle.std.proofs.Common.{append-nil}
use Rattle.gj_json.specs.Events as E
use Rattle.gj_json.specs.Flat.{numbers_events}
use Rattle.gj_coords.specs.Coordinates.{NotEnded, NoneEnds}
use Rattle.gj_rules.specs.Internal.RulesState.{FeedsMany}
use Rattle.gj_rules.specs.Rules.{StandsFor}
use Rattle.gj_rules.specs.Internal.EventSteps.{ended, fed}
use Rattle.gj_rules.proofs.Texts.ValuesByEvents.{Fits, Leads, leads_at, text_found, lead_text}
use Rattle.gj_rules.proofs.Texts.OneEventMore.{core, with_feed, step_fed, fits_of, good_core, holds_names, ended_names}

-- ---- the events that were reported

pub split_told : (done : List Told) (events fs : List Event) → map event_of done ≡ events ++ fs → (front : List Told) × (xs : List Told) × (done ≡ front ++ xs)
    × (map event_of front ≡ events) × (map event_of xs ≡ fs)
split_told done [] fs e = ([], done, refl, refl, e)
split_told [] (y ∷ ys) fs e = cc
split_told (x ∷ done) (y ∷ ys) fs e =
    let f : map event_of done ≡ ys ++ fs = cc in
    let g : event_of x ≡ y = cc in
    let k = split_told done ys fs f in
    let q : map event_of (x ∷ k.0) ≡ y ∷ ys = (let h : map event_of k.0 ≡ ys = k.3 in cc) in
    (x ∷ k.0, k.1, ap (λ (zs : List Told). x ∷ zs) k.2, q, k.4)

pub run-append : (xs ys : List Told) (s : State) → run (xs ++ ys) s ≡ run ys (run xs s)
run-append [] ys s = refl
run-append (x ∷ xs) ys s = run-append xs ys (step x s)

-- ---- events of a value, one after another

abbrev pub outcome : List Event → Tree → List Event → Core → State
outcome [] v taken c = record { core = ended v c; feed = idle }
outcome (y ∷ ys) v taken c = record { core = c; feed = record { value = v; taken = taken; left = y ∷ ys } }

fed_is : (left : List Event) (event : Event) (v : Tree) (taken : List Event) (c : Core)
    → fed (event ∷ left) event v taken c ≡ outcome left v (taken ++ event ∷ []) c
fed_is [] event v taken c = refl
fed_is (y ∷ ys) event v taken c = refl

abbrev pub feeding : Tree → List Event → List Event → Feed
feeding v taken left = record { value = v; taken = taken; left = left }

pub run_fed : (x : Told) (xs : List Told) (left : List Event) (v : Tree) (taken : List Event) (k : ℕ) (m : Mode) (f : Frame) (o : List Frame) (a : Findings)
    → is_feeding k m ≡ true
    → run (x ∷ xs) (with_feed (core k m f o a) (feeding v taken (map event_of (x ∷ xs) ++ left))) ≡ outcome left v (taken ++ map event_of (x ∷ xs))
    (core k m f o a)
run_fed x [] left v taken k m f o a e = step_fed x (feeding v taken (event_of x ∷ left)) k m f o a e ∙ fed_is left (event_of x) v taken (core k m f o a)
run_fed x (y ∷ ys) left v taken k m f o a e =
    ap (λ (s : State). run (y ∷ ys) s) (step_fed x (feeding v taken (map event_of (x ∷ (y ∷ ys)) ++ left)) k m f o a e)
    ∙ run_fed y ys left v (taken ++ event_of x ∷ []) k m f o a e
    ∙ ap (λ (es : List Event). outcome left v es (core k m f o a)) (append_assoc taken (event_of x ∷ []) (map event_of (y ∷ ys)))

outcome_stands : {frames : ℕ} (old new : FramedRules frames) (v : Tree) (taken left : List Event) → is_feeding old.skipped old.mode ≡ true
    → Fed old v taken left new → Stands new (outcome left v taken (core_of old))
outcome_stands old new v taken [] e h = (
  h,
  holds_names new.skipped new.mode new.coordinates new.bbox []
      (ap (λ (c : Core). c.mode) h ∙ ended_names v old.skipped old.mode (top_of old) (core_of old).outer (core_of old).answer e),
)
outcome_stands old new v taken (y ∷ ys) e h = h

-- ---- a value does not end within an array of numbers

-- an event after which an array is open, if it is one of an array of numbers
abbrev inner : What → Bool
inner What.OpenArray = true
inner (What.Number value) = true
inner _ = false

abbrev AllInner : List Event → Type 0
AllInner es = AllByRecursion (λ (e : Event). inner e.what ≡ true) es

abbrev closing : ℕ → Event
closing close = record { place = close; what = What.CloseArray }

numbers_inner : (numbers : List Numbered) (close : ℕ) (ys : List Event) (z : Event) (zs : List Event)
    → map number_event numbers ++ closing close ∷ [] ≡ ys ++ (z ∷ zs) → AllInner ys
numbers_inner numbers close [] z zs e = tt
numbers_inner [] close (y ∷ []) z zs e = cc
numbers_inner [] close (y ∷ (w ∷ ws)) z zs e = cc
numbers_inner (n ∷ numbers) close (y ∷ ys) z zs e =
    let f : number_event n ≡ y = cc in
    let g : map number_event numbers ++ closing close ∷ [] ≡ ys ++ (z ∷ zs) = cc in
    (subst (λ (x : Event). inner x.what ≡ true) f refl, numbers_inner numbers close ys z zs g)

flat_inner : (place : ℕ) (numbers : List Numbered) (close : ℕ) (ys : List Event) (z : Event) (zs : List Event)
    → numbers_events place numbers close ≡ ys ++ (z ∷ zs) → AllInner ys
flat_inner place numbers close [] z zs e = tt
flat_inner place numbers close (y ∷ ys) z zs e =
    let opening : Event = record { place = place; what = What.OpenArray } in
    let f : opening ≡ y = cc in
    let g : map number_event numbers ++ closing close ∷ [] ≡ ys ++ (z ∷ zs) = cc in
    (subst (λ (x : Event). inner x.what ≡ true) f refl, numbers_inner numbers close ys z zs g)

some_more : (ts : List Event) (next : Event) (later : List Event) → ts ++ (next ∷ later) ≡ [] → ⊥
some_more [] next later e = cc
some_more (t ∷ ts) next later e = cc

last_inner : (taken : List Event) (next : Event) (later before : List Event) (last : Event) → AllInner (next ∷ later)
    → taken ++ (next ∷ later) ≡ before ++ last ∷ [] → inner last.what ≡ true
last_inner [] next [] [] last h e = let f : next ≡ last = cc in subst (λ (x : Event). inner x.what ≡ true) f h.0
last_inner [] next (w ∷ ws) [] last h e = cc
last_inner [] next [] (p ∷ []) last h e = cc
last_inner [] next [] (p ∷ (q ∷ ps)) last h e = cc
last_inner [] next (w ∷ ws) (p ∷ ps) last h e = last_inner [] w ws ps last h.1 (cc)
last_inner (t ∷ ts) next later [] last h e = let f : ts ++ (next ∷ later) ≡ [] = cc in absurd (some_more ts next later f)
last_inner (t ∷ ts) next later (p ∷ ps) last h e = last_inner ts next later ps last h (cc)

told_events : (place : ℕ) (what close_what : What) (es : List E.Timed) (close : ℕ)
    → map (λ (x : E.Timed). x.event)
    (timed (place + 1) place what ∷ (es ++ timed (close + 1) close close_what ∷ [])) ≡ (record { place = place; what = what } ∷ map
    (λ (x : E.Timed). x.event) es) ++ record { place = close; what = close_what } ∷ []
told_events place what close_what es close =
    let opening : Event = record { place = place; what = what } in
    ap (λ (xs : List Event). opening ∷ xs) (map-append (λ (x : E.Timed). x.event) es (timed (close + 1) close close_what ∷ []))

not_number : (taken : List Event) (place there : ℕ) (later : List Event) (value : _)
    → taken ++ (record { place = place; what = What.OpenArray } ∷ later) ≡ record { place = there; what = What.Number value } ∷ [] → ⊥
not_number [] place there later value e =
    let opening : Event = record { place = place; what = What.OpenArray } in
    let numbered : Event = record { place = there; what = What.Number value } in
    let f : opening ≡ numbered = cc in
    let g : What.OpenArray ≡ What.Number value = ap (λ (x : Event). x.what) f in
    cc
not_number (t ∷ ts) place there later value e = some_more ts (record { place = place; what = What.OpenArray }) later (cc)

-- the events that are left of a value do not end before the array does
not_within : (v : Tree) (place : ℕ) (taken later : List Event) → AllInner (record { place = place; what = What.OpenArray } ∷ later)
    → taken ++ (record { place = place; what = What.OpenArray } ∷ later) ≡ value_events v → ⊥
not_within (constant Null p) place taken later h e = let f = last_inner taken _ later [] _ h e in cc
not_within (constant True p) place taken later h e = let f = last_inner taken _ later [] _ h e in cc
not_within (constant False p) place taken later h e = let f = last_inner taken _ later [] _ h e in cc
not_within (string p content end) place taken later h e = let f = last_inner taken _ later [] _ h e in cc
not_within (number p literal end) place taken later h e = not_number taken place p later _ e
not_within (array p es close) place taken later h e =
    let f : false ≡ true =
    last_inner taken _ later (record { place = p; what = What.OpenArray } ∷ map (λ (x : E.Timed). x.event) (elements_events es))
    (record { place = close; what = What.CloseArray }) h (e ∙ told_events p What.OpenArray What.CloseArray (elements_events es) close) in cc
not_within (object p ms close) place taken later h e =
    let f : false ≡ true =
    last_inner taken _ later (record { place = p; what = What.OpenObject } ∷ map (λ (x : E.Timed). x.event) (members_events ms))
    (record { place = close; what = What.CloseObject }) h (e ∙ told_events p What.OpenObject What.CloseObject (members_events ms) close) in cc

-- one list begins with the other
begins_with : (xs ys front bs : List Event) → xs ++ front ≡ ys ++ bs → ((more : List Event) × (ys ≡ xs ++ more))
    ⊎ ((z : Event) × (zs : List Event) × (xs ≡ ys ++ (z ∷ zs)))
begins_with [] ys front bs e = inl (ys, refl)
begins_with (x ∷ xs) [] front bs e = inr (x, xs, refl)
begins_with (x ∷ xs) (y ∷ ys) front bs e =
    let f : xs ++ front ≡ ys ++ bs = cc in
    let g : x ≡ y = cc in
    elim (begins_with xs ys front bs f) [
      | inl k ↦ inl (k.0, (let h : ys ≡ xs ++ k.0 = k.1 in cc))
      | inr k ↦ inr (k.0, k.1, (let h : xs ≡ ys ++ (k.0 ∷ k.1) = k.2 in cc))
    ]

within_value : (place : ℕ) (numbers : List Numbered) (close : ℕ) (v : Tree) (taken left front bs : List Event) (next : Event) (later : List Event)
    → left ≡ next ∷ later → taken ++ left ≡ value_events v → numbers_events place numbers close ++ front ≡ left ++ bs
    → (more : List Event) × (left ≡ numbers_events place numbers close ++ more)
within_value place numbers close v taken left front bs next later l s e = elim (begins_with (numbers_events place numbers close) left front bs e) [
  | inl k ↦ k
  | inr k ↦ (
      let opening : Event = record { place = place; what = What.OpenArray } in
      let c : numbers_events place numbers close ≡ (next ∷ later) ++ (k.0 ∷ k.1) = k.2 ∙ ap (λ (xs : List Event). xs ++ (k.0 ∷ k.1)) l in
      let o : next ≡ opening = cc in
      let i = flat_inner place numbers close (next ∷ later) k.0 k.1 c in
      let P : Event → Type 0 = λ x. AllInner (x ∷ later) in
      let Q : Event → Type 0 = λ x. taken ++ (x ∷ later) ≡ value_events v in
      absurd (not_within v place taken later (subst P o i) (subst Q o (ap (λ (xs : List Event). taken ++ xs) (sym l) ∙ s))))
]

-- ---- a call

-- Events come of a value that a summary takes, and the value does not end before they do.
module _ {frames : ℕ} (old new : FramedRules frames) (fs : List Event) (feeds : is_feeding old.skipped old.mode ≡ true) (t : FeedsMany old fs new)
    (some : fs ≡ [] → ⊥)
    (within : (v : Tree) (taken left front bs : List Event) (next : Event) (later : List Event) → depth v ≤ most_levels → Holds old taken
    → left ≡ next ∷ later → taken ++ left ≡ value_events v → fs ++ front ≡ left ++ bs → (more : List Event) × (left ≡ fs ++ more)) where
  from_fits : (x : Told) (xs rest : List Told) (v : Tree) (taken left : List Event) → map event_of (x ∷ xs) ≡ fs
      → Stands old (with_feed (core_of old) (feeding v taken left)) → Fits (feeding v taken left) ((x ∷ xs) ++ rest)
      → Stands new (run (x ∷ xs) (with_feed (core_of old) (feeding v taken left)))
  from_fits x xs rest v taken left e h f =
      let comes : fs ++ map event_of rest ≡ left ++ f.more =
      ap (λ (es : List Event). es ++ map event_of rest) (sym e) ∙ (sym (map-append event_of (x ∷ xs) rest) ∙ f.comes) in
      let w = within v taken left (map event_of rest) f.more f.next f.later f.deep h.1 f.left f.split comes in
      let l : left ≡ map event_of (x ∷ xs) ++ w.0 = w.1 ∙ ap (λ (es : List Event). es ++ w.0) (sym e) in
      let all : (taken ++ fs) ++ w.0 ≡ value_events v = append_assoc taken fs w.0 ∙ (ap (λ (es : List Event). taken ++ es) (sym w.1) ∙ f.split) in
      let done = outcome_stands old new v (taken ++ fs) w.0 feeds (t v taken w.0 f.deep h.1 all) in
      let r = run_fed x xs w.0 v taken old.skipped old.mode (top_of old) (core_of old).outer (core_of old).answer feeds in
      subst (λ (s : State). Stands new s)
      (sym (ap (λ (es : List Event). run (x ∷ xs) (with_feed (core_of old) (feeding v taken es))) l
      ∙ (r ∙ ap (λ (es : List Event). outcome w.0 v (taken ++ es) (core_of old)) e))) done

  events_run : (xs rest : List Told) (s : State) (found : Findings) → map event_of xs ≡ fs → Stands old s → Leads frames (xs ++ rest) s found
      → Stands new (run xs s)
  events_run [] rest s found e h g = absurd (some (sym e))
  events_run (x ∷ xs) rest s found e h g =
      let fits = fits_of frames x (xs ++ rest) s.feed old.skipped old.mode (top_of old) (core_of old).outer (core_of old).answer feeds
      (good_core old x (xs ++ rest) s h.0 g.0) in
      subst (λ (c : Core). Stands new (run (x ∷ xs) (with_feed c s.feed))) h.0 (from_fits x xs rest s.feed.value s.feed.taken s.feed.left e (refl, h.1) fits)

  pub events_told : (events : List Event) → StandsFor old events → StandsFor new (events ++ fs)
  events_told events h = λ text done rest e f d.
      let k = split_told done events fs f in
      let split : text_told text ≡ k.0 ++ (k.1 ++ rest) = e ∙ (ap (λ (ts : List Told). ts ++ rest) k.2 ∙ append_assoc k.0 k.1 rest) in
      let stands = h text k.0 (k.1 ++ rest) split k.3 d in
      let leads = leads_at frames k.0 (k.1 ++ rest) start (text_found text)
      (subst (λ (ts : List Told). Leads frames ts start (text_found text)) split (lead_text frames old.few text d)) in
      subst (λ (s : State). Stands new s) (sym (ap (λ (ts : List Told). run ts start) k.2 ∙ run-append k.0 k.1 start))
      (events_run k.1 rest (run k.0 start) (text_found text) k.4 stands leads)

pub told_flat : {frames : ℕ} (old new : FramedRules frames) (place : ℕ) (numbers : List Numbered) (close : ℕ) → is_feeding old.skipped old.mode ≡ true
    → FeedsMany old (numbers_events place numbers close) new → (events : List Event) → StandsFor old events
    → StandsFor new (events ++ numbers_events place numbers close)
told_flat old new place numbers close feeds t =
    events_told old new (numbers_events place numbers close) feeds t (λ e. cc)
    (λ v taken left front bs next later deep held. within_value place numbers close v taken left front bs next later)

-- ---- arrays of two numbers, of which none ends the value

cancel : (xs ys zs : List Event) → xs ++ ys ≡ xs ++ zs → ys ≡ zs
cancel [] ys zs e = e
cancel (x ∷ xs) ys zs e = cancel xs ys zs (cc)

-- after the first of them more is left of the value
after_first : (f : Flat) (fs : List Flat) (v : Tree) (taken left front bs more : List Event) → left ≡ flat_events f ++ more → depth v < 2 ^ 64
    → NotEnded (taken ++ flat_events f) → taken ++ left ≡ value_events v → (flat_events f ++ flats_events fs) ++ front ≡ left ++ bs
    → ((x : Event) (xs : List Event) → (taken ++ flat_events f) ++ (x ∷ xs) ≡ value_events v → flats_events fs ++ front ≡ (x ∷ xs) ++ bs
    → (end : List Event) × (x ∷ xs ≡ flats_events fs ++ end))
    → (end : List Event) × (left ≡ (flat_events f ++ flats_events fs) ++ end)
after_first f fs v taken left front bs [] m deep goes s e next =
    absurd (goes v deep (ap (λ (es : List Event). taken ++ es) (sym (append-nil (flat_events f)) ∙ sym m) ∙ s))
after_first f fs v taken left front bs (x ∷ xs) m deep goes s e next =
    let split : (taken ++ flat_events f) ++ (x ∷ xs) ≡ value_events v =
    append_assoc taken (flat_events f) (x ∷ xs) ∙ ap (λ (es : List Event). taken ++ es) (sym m) ∙ s in
    let cut : flats_events fs ++ front ≡ (x ∷ xs) ++ bs =
    cancel (flat_events f) (flats_events fs ++ front) ((x ∷ xs) ++ bs)
    (sym (append_assoc (flat_events f) (flats_events fs) front) ∙ e ∙ ap (λ (es : List Event). es ++ bs) m ∙ append_assoc (flat_events f) (x ∷ xs) bs) in
    let w = next x xs split cut in
    (w.0, m ∙ ap (λ (es : List Event). flat_events f ++ es) w.1 ∙ sym (append_assoc (flat_events f) (flats_events fs) w.0))

pub within_values : (flats : List Flat) (v : Tree) (taken left front bs : List Event) (next : Event) (later : List Event) → depth v < 2 ^ 64
    → NoneEnds taken flats → left ≡ next ∷ later → taken ++ left ≡ value_events v → flats_events flats ++ front ≡ left ++ bs
    → (more : List Event) × (left ≡ flats_events flats ++ more)
within_values [] v taken left front bs next later deep none l s e = (left, refl)
within_values (f ∷ fs) v taken left front bs next later deep none l s e =
    let w = within_value f.place (numbers_of f) f.close v taken left (flats_events fs ++ front) bs next later l s
    (sym (append_assoc (flat_events f) (flats_events fs) front) ∙ e) in
    after_first f fs v taken left front bs w.0 w.1 deep none.0 s e
    (λ x xs split cut. within_values fs v (taken ++ flat_events f) (x ∷ xs) front bs x xs deep none.1 refl split cut)

pub last_goes_on : (events : List Event) (f : Flat) (fs : List Flat) → NoneEnds events (f ∷ fs) → NotEnded (events ++ flats_events (f ∷ fs))
last_goes_on events f [] none = subst NotEnded (ap (λ es. events ++ es) (sym (append-nil (flat_events f)))) none.0
last_goes_on events f (g ∷ fs) none =
    subst NotEnded (append_assoc events (flat_events f) (flats_events (g ∷ fs))) (last_goes_on (events ++ flat_events f) g fs none.1)

-- What a call leaves stands for one event more.
use Rattle.gj_rules.proofs.Common.{Coordinates, Core, Done, Due, Event, Fed, Feed, Findings, Frame, FramedRules, Holds, HoldsIn, IsText, List, Mode}
use Rattle.gj_rules.proofs.Common.{Names, RootDue, Stands, State, Text, Told, Tree, all_events, ap, append_assoc, arith, by, core_of, core_step}
use Rattle.gj_rules.proofs.Common.{depth, event_of, events_by, false, is_feeding, judged_at, levels_within, map, most_levels, refl, run, start, step}
use Rattle.gj_rules.proofs.Common.{subst, suc, sym, text_told, top_of, true, value_events, zero, [], ◌++◌, ◌<◌, ◌∙◌, ◌∷◌, ◌≤◌}
use Rattle.std.proofs.Common.{◌≡◌, ℕ}
use Rattle.std.proofs.lemmas.List.{append-nil}
use Rattle.gj_json.specs.declared.event.What.{What}
use Rattle.gj_json.specs.declared.names.Known.{Known}
use Rattle.gj_json.specs.declared.names.Known.TheVariants.{Bbox}
use Rattle.gj_json.specs.Events as E
use Rattle.gj_coords.specs.declared.coordinates.Coordinates as C
use Rattle.gj_coords.specs.declared.bbox.Bbox as B
use Rattle.gj_rules.specs.Internal.SkippedLevels.{most_skipped}
use Rattle.gj_rules.specs.Internal.FrameReading.{found_in}
use Rattle.gj_rules.specs.declared.mode.Mode.TheVariants.{Elements}
use Rattle.gj_rules.specs.Internal.RulesState.{frames_by, HasRoom}
use Rattle.gj_rules.specs.Rules.{StandsFor}
use Rattle.gj_rules.specs.Internal.EventSteps.{feed_behind, ended, fed}
use Rattle.gj_rules.specs.Internal.LabelledEvents as T
use Rattle.gj_rules.proofs.Texts.FramesInUse.{front_text}
use Rattle.gj_rules.proofs.Texts.TimedEvents.{text-timed, text-events}
use Rattle.gj_rules.proofs.Texts.ValuesByEvents.{Good, Fits, IsNameOrEnd, Leads, leads_at, text_found, lead_text}

-- ---- the events that were reported

pub none_told : (done : List Told) → map event_of done ≡ [] → done ≡ []
none_told [] e = refl
none_told (x ∷ xs) e = cc

pub last_told : (done : List Told) (events : List Event) (event : Event) → map event_of done ≡ events ++ event ∷ []
    → (front : List Told) × (x : Told) × (done ≡ front ++ x ∷ []) × (map event_of front ≡ events) × (event_of x ≡ event)
last_told [] [] event e = cc
last_told [] (y ∷ ys) event e = cc
last_told (x ∷ []) [] event e = ([], x, refl, refl, cc)
last_told (x ∷ (y ∷ ys)) [] event e = cc
last_told (x ∷ xs) (y ∷ ys) event e =
    let f : map event_of xs ≡ ys ++ event ∷ [] = cc in
    let g : event_of x ≡ y = cc in
    let k = last_told xs ys event f in
    let p : x ∷ xs ≡ (x ∷ k.0) ++ k.1 ∷ [] = ap (λ (zs : List Told). x ∷ zs) k.2 in
    let q : map event_of (x ∷ k.0) ≡ y ∷ ys = (let h : map event_of k.0 ≡ ys = k.3 in cc) in
    (x ∷ k.0, k.1, p, q, k.4)

pub run-last : (xs : List Told) (x : Told) (s : State) → run (xs ++ x ∷ []) s ≡ step x (run xs s)
run-last [] x s = refl
run-last (y ∷ ys) x s = run-last ys x (step y s)

-- ---- an event that goes to no summary

abbrev pub core : ℕ → Mode → Frame → List Frame → Findings → Core
core k m f o a = record { skipped = k; mode = m; top = f; outer = o; answer = a }

abbrev pub with_feed : Core → Feed → State
with_feed c feed = record { core = c; feed = feed }

step_core : (x : Told) (feed : Feed) (k : ℕ) (m : Mode) (f : Frame) (o : List Frame) (a : Findings) → is_feeding k m ≡ false
    → (step x (with_feed (core k m f o a) feed)).core ≡ core_step (event_of x) (core k m f o a)
step_core x feed zero m f o a e = rw e refl
step_core x feed (suc k) m f o a e = refl

named_taken : (x : Told) (name : Known) → (feed_behind x (Due name)).taken ≡ []
named_taken (T.named at place n v) Coordinates = refl
named_taken other another = refl

behind_taken : (x : Told) (m : Mode) → (feed_behind x m).taken ≡ []
behind_taken x (Due name) = named_taken x name
behind_taken x other = refl

step_taken : (x : Told) (feed : Feed) (k : ℕ) (m : Mode) (f : Frame) (o : List Frame) (a : Findings) → is_feeding k m ≡ false
    → (step x (with_feed (core k m f o a) feed)).feed.taken ≡ []
step_taken x feed zero m f o a e = rw e (behind_taken x (core_step (event_of x) (core zero m f o a)).mode)
step_taken x feed (suc k) m f o a e = refl

few_skipped : (frames : ℕ) (x : Told) (rest : List Told) (feed : Feed) (k : ℕ) (m : Mode) (f : Frame) (o : List Frame) (a : Findings)
    → is_feeding k m ≡ false → Good frames x rest (with_feed (core k m f o a) feed) → k < most_skipped
few_skipped frames x rest feed zero m f o a e g = omega arith
few_skipped frames x rest feed (suc k) m f o a e g = g

names_room : (frames : ℕ) (what : What) (o : List Frame) → IsNameOrEnd what → HasRoom frames what o
names_room frames What.OpenObject o g = absurd g
names_room frames _ o g = tt

has_room : (frames : ℕ) (x : Told) (rest : List Told) (feed : Feed) (k : ℕ) (m : Mode) (f : Frame) (o : List Frame) (a : Findings)
    → is_feeding k m ≡ false → Good frames x rest (with_feed (core k m f o a) feed) → k ≡ 0 → HasRoom frames (event_of x).what o
has_room frames x rest feed (suc k) m f o a e g z = cc
has_room frames x rest feed zero (Due Coordinates) f o a e g z = cc
has_room frames x rest feed zero (Due Bbox) f o a e g z = cc
has_room frames x rest feed zero Names f o a e g z = names_room frames (event_of x).what o g
has_room frames x rest feed zero other f o a e g z = g

taken_core : {frames : ℕ} (old new : FramedRules frames) (x : Told) (rest : List Told) (feed : Feed) → is_feeding old.skipped old.mode ≡ false
    → Good frames x rest (with_feed (core_of old) feed)
    → (old.skipped < most_skipped → (old.skipped ≡ 0 → HasRoom frames (event_of x).what (core_of old).outer)
    → core_of new ≡ core_step (event_of x) (core_of old)) → Holds new []
    → Stands new (step x (with_feed (core_of old) feed))
taken_core old new x rest feed e g t h = (
  t (few_skipped _ x rest feed old.skipped old.mode (top_of old) (core_of old).outer (core_of old).answer e g)
      (has_room _ x rest feed old.skipped old.mode (top_of old) (core_of old).outer (core_of old).answer e g)
      ∙ sym (step_core x feed old.skipped old.mode (top_of old) (core_of old).outer (core_of old).answer e),
  subst (λ (es : List Event). Holds new es) (sym (step_taken x feed old.skipped old.mode (top_of old) (core_of old).outer (core_of old).answer e)) h,
)

-- ---- an event that goes to a summary

pub step_fed : (x : Told) (feed : Feed) (k : ℕ) (m : Mode) (f : Frame) (o : List Frame) (a : Findings) → is_feeding k m ≡ true
    → step x (with_feed (core k m f o a) feed) ≡ fed feed.left (event_of x) feed.value feed.taken (core k m f o a)
step_fed x feed zero m f o a e = rw e refl
step_fed x feed (suc k) m f o a e = cc

pub ended_names : (v : Tree) (k : ℕ) (m : Mode) (f : Frame) (o : List Frame) (a : Findings) → is_feeding k m ≡ true → (ended v (core k m f o a)).mode ≡ Names
ended_names v zero (Due name) f o a e = refl
ended_names v other another f o a e = cc

pub holds_names : (k : ℕ) (m : Mode) (c : C.Coordinates) (b : B.Bbox) (es : List Event) → m ≡ Names → HoldsIn k m c b es
holds_names zero Names c b es e = tt
holds_names zero RootDue c b es e = cc
holds_names zero (Due name) c b es e = cc
holds_names zero (Elements r) c b es e = cc
holds_names zero Done c b es e = cc
holds_names (suc k) m c b es e = tt

fed_core : {frames : ℕ} (old new : FramedRules frames) (x : Told) (v : Tree) (taken later : List Event) (next : Event) → is_feeding old.skipped old.mode ≡ true
    → Fed old v (taken ++ event_of x ∷ []) later new
    → Stands new (fed (next ∷ later) (event_of x) v taken (core_of old))
fed_core old new x v taken [] next e h = (
  h,
  holds_names new.skipped new.mode new.coordinates new.bbox []
      (ap (λ (c : Core). c.mode) h ∙ ended_names v old.skipped old.mode (top_of old) (core_of old).outer (core_of old).answer e),
)
fed_core old new x v taken (y ∷ ys) next e h = h

pub fits_of : (frames : ℕ) (x : Told) (rest : List Told) (feed : Feed) (k : ℕ) (m : Mode) (f : Frame) (o : List Frame) (a : Findings)
    → is_feeding k m ≡ true → Good frames x rest (with_feed (core k m f o a) feed) → Fits feed (x ∷ rest)
fits_of frames x rest feed zero (Due Coordinates) f o a e g = g
fits_of frames x rest feed zero (Due Bbox) f o a e g = g
fits_of frames x rest feed other another f o a e g = cc

next_is : (x : Told) (rest : List Told) (left later more : List Event) (next : Event) → left ≡ next ∷ later → map event_of (x ∷ rest) ≡ left ++ more
    → event_of x ≡ next
next_is x rest left later more next e f = let g : event_of x ∷ map event_of rest ≡ next ∷ (later ++ more) = f ∙ ap (λ (es : List Event). es ++ more) e in cc

goes_on : (v : Tree) (taken left later : List Event) (next event : Event) → left ≡ next ∷ later → event ≡ next → taken ++ left ≡ value_events v
    → (taken ++ event ∷ []) ++ later ≡ value_events v
goes_on v taken left later next event e f g =
    append_assoc taken (event ∷ []) later ∙ (ap (λ (y : Event). taken ++ y ∷ later) f ∙ (ap (λ (es : List Event). taken ++ es) (sym e) ∙ g))

feed_core : {frames : ℕ} (old new : FramedRules frames) (x : Told) (rest : List Told) (feed : Feed) → is_feeding old.skipped old.mode ≡ true
    → Good frames x rest (with_feed (core_of old) feed) → Holds old feed.taken
    → ((v : Tree) (taken left : List Event) → depth v ≤ most_levels → Holds old taken → (taken ++ event_of x ∷ []) ++ left ≡ value_events v
    → Fed old v (taken ++ event_of x ∷ []) left new)
    → Stands new (step x (with_feed (core_of old) feed))
feed_core old new x rest feed e g h t =
    let k = fits_of _ x rest feed old.skipped old.mode (top_of old) (core_of old).outer (core_of old).answer e g in
    let n = next_is x rest feed.left k.later k.more k.next k.left k.comes in
    let f = t feed.value feed.taken k.later k.deep h (goes_on feed.value feed.taken feed.left k.later k.next (event_of x) k.left n k.split) in
    subst (λ (s : State). Stands new s)
    (ap (λ (es : List Event). fed es (event_of x) feed.value feed.taken (core_of old)) (sym k.left)
    ∙ sym (step_fed x feed old.skipped old.mode (top_of old) (core_of old).outer (core_of old).answer e))
    (fed_core old new x feed.value feed.taken k.later k.next e f)

-- ---- a call

-- the state before an event of a text, and what is known of it
front_stands : {frames : ℕ} (rules : FramedRules frames) (events : List Event) (text : Text) (front rest : List Told) (x : Told) → StandsFor rules events
    → text_told text ≡ front ++ x ∷ rest → map event_of front ≡ events → depth text.value ≤ levels_within frames
    → Stands rules (run front start) × Good frames x rest (run front start)
front_stands {frames} rules events text front rest x h e f d = (
  h text front (x ∷ rest) e f d,
  (leads_at frames front (x ∷ rest) start (text_found text)
      (subst (λ (ts : List Told). Leads frames ts start (text_found text)) e (lead_text frames rules.few text d))).0,
)

-- from each state for which the rules may stand, and an event that may come there
abbrev pub Steps : {frames : ℕ} → FramedRules frames → Event → FramedRules frames → Type 0
Steps {frames} old event new = (x : Told) (rest : List Told) (s : State) → event_of x ≡ event → Stands old s → Good frames x rest s → Stands new (step x s)

steps_told : {frames : ℕ} (old new : FramedRules frames) (event : Event) (events : List Event) (text : Text) (done rest front : List Told) (x : Told)
    → Steps old event new → StandsFor old events
    → text_told text ≡ done ++ rest → depth text.value ≤ levels_within frames → done ≡ front ++ x ∷ [] → map event_of front ≡ events → event_of x ≡ event
    → Stands new (run done start)
steps_told old new event events text done rest front x t h e d p q i =
    let split : text_told text ≡ front ++ x ∷ rest = e ∙ (ap (λ (ts : List Told). ts ++ rest) p ∙ append_assoc front (x ∷ []) rest) in
    let k = front_stands old events text front rest x h split q d in
    subst (λ (s : State). Stands new s) (sym (ap (λ (ts : List Told). run ts start) p ∙ run-last front x start)) (t x rest (run front start) i k.0 k.1)

pub told_on : {frames : ℕ} (old new : FramedRules frames) (event : Event) (events : List Event) → Steps old event new → StandsFor old events
    → StandsFor new (events ++ event ∷ [])
told_on old new event events t h = λ text done rest e f d.
    let k = last_told done events event f in
    steps_told old new event events text done rest k.0 k.1 t h e d k.2 k.3 k.4

-- a state is its core and its feed
from_core : {frames : ℕ} (old new : FramedRules frames) (x : Told) (s : State) → core_of old ≡ s.core → Stands new (step x (with_feed (core_of old) s.feed))
    → Stands new (step x s)
from_core old new x s e h = subst (λ (c : Core). Stands new (step x (with_feed c s.feed))) e h

pub good_core : {frames : ℕ} (old : FramedRules frames) (x : Told) (rest : List Told) (s : State) → core_of old ≡ s.core → Good frames x rest s
    → Good frames x rest (with_feed (core_of old) s.feed)
good_core {frames} old x rest s e g = subst (λ (c : Core). Good frames x rest (with_feed c s.feed)) (sym e) g

pub steps_taken : {frames : ℕ} (old new : FramedRules frames) (event : Event) → is_feeding old.skipped old.mode ≡ false
    → (old.skipped < most_skipped → (old.skipped ≡ 0 → HasRoom frames event.what (core_of old).outer) → core_of new ≡ core_step event (core_of old))
    → Holds new [] → Steps old event new
steps_taken {frames} old new event e t h = λ x rest s i k g.
    from_core old new x s k.0 (taken_core old new x rest s.feed e (good_core old x rest s k.0 g)
    (subst (λ (y : Event). old.skipped < most_skipped → (old.skipped ≡ 0 → HasRoom frames y.what (core_of old).outer) → core_of new ≡ core_step y (core_of old))
    (sym i) t) h)

pub steps_fed : {frames : ℕ} (old new : FramedRules frames) (event : Event) → is_feeding old.skipped old.mode ≡ true
    → ((v : Tree) (taken left : List Event) → depth v ≤ most_levels → Holds old taken → (taken ++ event ∷ []) ++ left ≡ value_events v
    → Fed old v (taken ++ event ∷ []) left new) → Steps old event new
steps_fed old new event e t = λ x rest s i k g.
    from_core old new x s k.0 (feed_core old new x rest s.feed e (good_core old x rest s k.0 g) k.1
    (subst (λ (y : Event). (v : Tree) (taken left : List Event) → depth v ≤ most_levels → Holds old taken → (taken ++ y ∷ []) ++ left ≡ value_events v
    → Fed old v (taken ++ y ∷ []) left new) (sym i) t))

-- ---- the start and the end

pub started : {frames : ℕ} (rules : FramedRules frames) → core_of rules ≡ start.core → Holds rules [] → StandsFor rules []
started rules e h = λ text done rest f g d.
    subst (λ (ts : List Told). Stands rules (run ts start)) (sym (none_told done g)) (e, h)

pub answered : {frames : ℕ} (rules : FramedRules frames) (text : Text) → depth text.value ≤ levels_within frames → StandsFor rules (all_events text)
    → found_in rules.answer ≡ text_found text
answered {frames} rules text d h =
    let whole : text_told text ≡ text_told text ++ [] = sym (append-nil (text_told text)) in
    let k = h text (text_told text) [] whole (text-events text) d in
    ap (λ (c : Core). c.answer) k.0
    ∙ leads_at frames (text_told text) [] start (text_found text)
    (subst (λ (ts : List Told). Leads frames ts start (text_found text)) whole (lead_text frames rules.few text d))

-- ---- the frames in use

pub judged_is : {frames : ℕ} (rules : FramedRules frames) (text : Text) (bytes : List ℕ) (n : ℕ) → IsText text bytes → depth text.value ≤ levels_within frames
    → StandsFor rules (events_by n text) → frames_by rules.mode (core_of rules).outer ≡ judged_at n text
judged_is rules text bytes n t d h =
    let front = front_text text bytes n t in
    let e : map event_of front.done ≡ events_by n text = front.complete ∙ ap (λ (xs : List E.Timed). by n xs) (text-timed text) in
    let k = h text front.done front.rest front.split e d in
    ap (λ (c : Core). frames_by c.mode c.outer) k.0 ∙ front.frames

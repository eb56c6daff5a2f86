-- What the first events of a text show of it, and what the rules keep of them.
use Rattle.gj_rules.proofs.Common.{Bool, Coordinates, Done, Event, False, Fault, Features, Findings, Frame, FramedRules, G1, G2, Geometries, Geometry}
use Rattle.gj_rules.proofs.Common.{IsText, List, MemberRules, MemberSlots, Members, Names, Null, Properties, Role, Slot, State, Text, Told, Tree}
use Rattle.gj_rules.proofs.Common.{True, TypeValue, Warnings, What, Word, ap, array, asked_fault, by, constant, core_of, depth, event_of, events_by}
use Rattle.gj_rules.proofs.Common.{false, fault_at, faults, forbidden_by, if◌then◌else◌, inl, inr, is_allowed, is_among, is_known, is_lost, is_some}
use Rattle.gj_rules.proofs.Common.{least, lesser, levels_within, map, mark_told, marked_kept, members_told, mentions, missing, number, object, plain}
use Rattle.gj_rules.proofs.Common.{refl, rules_of, run, start, step, string, subst, suc, sym, text_faults, told, true, zero, [], ◌++◌, ◌+◌, ◌||◌, ◌∙◌}
use Rattle.gj_rules.proofs.Common.{◌∷◌, ◌≤◌}
use Rattle.std.proofs.Common.{◌≡◌, ℕ, Option, Some, None}
use Rattle.std.specs.List.{list_any}
use Rattle.std.proofs.lemmas.Bool.{or_left, or_right, or_cases}
use Rattle.gj_json.specs.declared.event.What.TheVariants as W
use Rattle.gj_json.specs.declared.names.Known.{Known}
use Rattle.gj_json.specs.declared.names.Known.TheVariants.{Bbox}
use Rattle.gj_json.specs.Events as E
use Rattle.gj_json.specs.Names.{word_of}
use Rattle.gj_number.specs.Value.{value_of}
use Rattle.gj_coords.specs.declared.fault.Rule.TheVariants.{G3}
use Rattle.gj_rules.specs.Doomed.{names, first_type, repeats, type_fails, members_fail, value_fails, is_doomed}
use Rattle.gj_rules.specs.Internal.FrameCalls as F
use Rattle.gj_rules.specs.Internal.MemberRules.{without_due}
use Rattle.gj_rules.specs.Internal.LostObjects.{fails_by, fails_as, type_lost, core_lost}
use Rattle.gj_rules.specs.Rules.{StandsFor}
use Rattle.gj_rules.specs.Internal.OpenMembers as S
use Rattle.gj_rules.specs.Internal.EventSteps.{skip}
use Rattle.gj_rules.proofs.Objects.ClosedFrames.{all_closed}
use Rattle.gj_rules.proofs.Texts.FramesInUse.{front_text}
use Rattle.gj_rules.proofs.Objects.GrowingFaults.{Keeps, lesser_first, lesser_second, not_due, members_keep}
use Rattle.gj_rules.proofs.Texts.ValuesByEvents.{st, due_root, had_found, frame_role}
use Rattle.gj_rules.proofs.Doom.InsideValues.{root}
use Rattle.gj_rules.proofs.Doom.OutermostMembers.{own, whats}
use Rattle.gj_rules.proofs.Objects.SettledObjects.{none_set}
use Rattle.gj_rules.proofs.Doom.RootObject.{Shows, Here, Cut, End, word_in, last_of, members_run, members_cut}
use Rattle.gj_rules.proofs.Objects.JoinedFindings.{members_shown}
use Rattle.gj_rules.proofs.Texts.TimedEvents.{text-timed}

-- ---- what is lost has a fault at its close

lesser_or : (p q : Bool) (x y : Option Fault) → Keeps p (is_some x) → Keeps q (is_some y) → Keeps (p || q) (is_some (lesser x y))
lesser_or true q x y f g e = lesser_first x y (f refl)
lesser_or false q x y f g e = lesser_second x y (g e)

member_kept : (d u b : Bool) (x : Fault) (o : Option Slot) → Keeps (is_some (asked_fault false u b x o)) (is_some (asked_fault d u b x o))
member_kept d u b x None e = let l : false ≡ true = e in cc
member_kept d u b x (Some slot) e = e

members_kept : (r : MemberRules) (f : MemberSlots) → Keeps (is_some (S.members_fault (without_due r) f)) (is_some (S.members_fault r f))
members_kept r f = members_keep (without_due r) r f f (λ n.
    rw (not_due n) (member_kept (is_among r.due n) (is_among r.used n) (is_among r.forbidden n) (fault_at f.place (missing n)) (S.slot_of n f)))

type_kept : (word : Word) (f : MemberSlots) → Keeps (fails_by word f) (is_some (S.as_type word f))
type_kept word f =
    lesser_or (is_some (S.members_fault (without_due (rules_of word)) f)) _ (S.members_fault (rules_of word) f) _ (members_kept (rules_of word) f) (λ e. e)

typed_kept : (word : Word) (x : Fault) (f : MemberSlots)
    → Keeps (fails_as word f) (is_some (if is_allowed Role.Root word then S.as_type word f else S.as_none x f))
typed_kept Word.Other x f e = lesser_second (S.members_fault (rules_of Word.Other) f) (Some x) refl
typed_kept word x f e = type_kept word f e

rest_kept : (o : Option TypeValue) (f : MemberSlots) → f.role ≡ Role.Root → Keeps (type_lost o f) (is_some (S.rest_by o f))
rest_kept None f r e = lesser_second (S.members_fault (rules_of Word.Other) f) (Some (fault_at f.place G2)) refl
rest_kept (Some value) f r e =
    subst (λ (role : Role). is_some (if is_allowed role value.word then S.as_type value.word f else S.as_none (fault_at value.place G3) f) ≡ true) (sym r)
    (typed_kept value.word (fault_at value.place G3) f e)

settled_lost : (f : MemberSlots) → f.role ≡ Role.Root → Keeps (is_lost f) (is_some (S.settled f))
settled_lost f r = lesser_or (is_some f.repeated) _ f.repeated _ (λ e. e) (rest_kept f.type_value f r)

-- ---- the members

abbrev blank : ℕ → Frame
blank place = F.blank Role.Root place

blank_shows : (place : ℕ) → Shows [] (blank place).slots
blank_shows place = record { mentioned = record { each = λ n k. ap is_some (none_set Role.Root place n) }; typed = refl; shaped = λ e. refl; role = refl }

-- the object with these members has a fault, where its last frame is lost
lost_faults : (place close : ℕ) (ms : Members) → is_lost (S.members_taken ms (blank place).slots) ≡ true → faults Role.Root (object place ms close) ≡ [] → ⊥
lost_faults place close ms e none =
    let last : Frame = F.members_taken ms (blank place) in
    let lost : is_lost last.slots ≡ true = ap is_lost (members_shown ms (blank place)) ∙ e in
    let some : is_some (F.settled last).fault ≡ true = settled_lost last.slots (frame_role ms (blank place)) lost in
    let same : (F.settled last).fault ≡ least (faults Role.Root (object place ms close)) =
    ap (λ (x : Findings). x.fault) (all_closed Role.Root place close ms) in
    let nothing : is_some (F.settled last).fault ≡ false = ap is_some same ∙ ap (λ xs. is_some (least xs)) none in
    cc

closed_faults : (place close : ℕ) (ms : Members) → is_some (F.settled (F.members_taken ms (blank place))).fault ≡ true
    → faults Role.Root (object place ms close) ≡ [] → ⊥
closed_faults place close ms some none =
    let last : Frame = F.members_taken ms (blank place) in
    let same : (F.settled last).fault ≡ least (faults Role.Root (object place ms close)) =
    ap (λ (x : Findings). x.fault) (all_closed Role.Root place close ms) in
    let nothing : is_some (F.settled last).fault ≡ false = ap is_some same ∙ ap (λ xs. is_some (least xs)) none in
    cc

-- ---- a member that is forbidden

forbids : (u : Bool) (x : Fault) (o : Option Slot) → is_some o ≡ true → is_some (asked_fault false u true x o) ≡ true
forbids u x None e = cc
forbids u x (Some slot) e = refl

-- the names that some type forbids
abbrev CanBeForbidden : Known → Type 0
CanBeForbidden Coordinates = Unit {0}
CanBeForbidden Geometries = Unit {0}
CanBeForbidden Geometry = Unit {0}
CanBeForbidden Properties = Unit {0}
CanBeForbidden Features = Unit {0}
CanBeForbidden _ = ⊥

among_members : (n : Known) → CanBeForbidden n → (r : MemberRules) (g : MemberSlots) → Keeps (is_some (S.fault_of n r g)) (is_some (S.members_fault r g))
unfolding S.members_fault
among_members Coordinates i r g e = lesser_second (S.fault_of Bbox r g) _ (lesser_first (S.fault_of Coordinates r g) _ e)
among_members Geometries i r g e =
    lesser_second (S.fault_of Bbox r g) _ (lesser_second (S.fault_of Coordinates r g) _ (lesser_first (S.fault_of Geometries r g) _ e))
among_members Geometry i r g e =
    lesser_second (S.fault_of Bbox r g) _ (lesser_second (S.fault_of Coordinates r g) _ (lesser_second (S.fault_of Geometries r g) _
    (lesser_first (S.fault_of Geometry r g) _ e)))
among_members Properties i r g e =
    lesser_second (S.fault_of Bbox r g) _ (lesser_second (S.fault_of Coordinates r g) _ (lesser_second (S.fault_of Geometries r g) _
    (lesser_second (S.fault_of Geometry r g) _ (lesser_first (S.fault_of Properties r g) _ e))))
among_members Features i r g e =
    lesser_second (S.fault_of Bbox r g) _ (lesser_second (S.fault_of Coordinates r g) _ (lesser_second (S.fault_of Geometries r g) _
    (lesser_second (S.fault_of Geometry r g) _ (lesser_second (S.fault_of Properties r g) _ (lesser_first (S.fault_of Features r g) _ e)))))
among_members _ i r g e = absurd i

-- the names that are there
abbrev Shown : List Known → MemberSlots → Type 0
Shown found g = (n : Known) → is_known n ≡ true → is_some (S.slot_of n g) ≡ mentions found n

forbidden_there : (n : Known) → CanBeForbidden n → (r : MemberRules) (g : MemberSlots) (found : List Known) → Shown found g → is_known n ≡ true
    → is_among r.forbidden n ≡ true → Keeps (mentions found n) (is_some (S.members_fault (without_due r) g))
forbidden_there n i r g found h k b e =
    among_members n i (without_due r) g
    (rw (not_due n, b) (forbids (is_among r.used n) (fault_at g.place (missing n)) (S.slot_of n g) (h n k ∙ e)))

-- some of these names
abbrev AllForbidden : MemberRules → List Known → Type 0
AllForbidden r [] = Unit {0}
AllForbidden r (n ∷ more) = CanBeForbidden n × (is_known n ≡ true) × (is_among r.forbidden n ≡ true) × AllForbidden r more

some_lost : (xs : List Known) (r : MemberRules) (g : MemberSlots) (found : List Known) → Shown found g → AllForbidden r xs
    → Keeps (list_any (mentions found) xs) (is_some (S.members_fault (without_due r) g))
some_lost [] r g found h a e = cc
some_lost (n ∷ more) r g found h (i, k, b, a) e = elim (or_cases (mentions found n) (list_any (mentions found) more) e) [
  | inl here ↦ forbidden_there n i r g found h k b here
  | inr later ↦ some_lost more r g found h a later
]

forbidden_lost : (word : Word) (g : MemberSlots) (found : List Known) → Shown found g → type_fails (Some word) found ≡ true → fails_as word g ≡ true
forbidden_lost Word.Other g found h e = refl
forbidden_lost Word.FeatureCollection g found h e =
    or_left (is_some (S.members_fault (without_due (rules_of Word.FeatureCollection)) g)) _
    (some_lost (forbidden_by Word.FeatureCollection) (rules_of Word.FeatureCollection) g found h
    (tt, refl, refl, (tt, refl, refl, (tt, refl, refl, (tt, refl, refl, tt)))) e)
forbidden_lost word g found h e =
    or_left (is_some (S.members_fault (without_due (rules_of word)) g)) _
    (some_lost (forbidden_by word) (rules_of word) g found h (tt, refl, refl, (tt, refl, refl, (tt, refl, refl, tt))) e)

type_is_lost : (o : Option TypeValue) (g : MemberSlots) (found : List Known) → Shown found g → type_fails (word_in o) found ≡ true → type_lost o g ≡ true
type_is_lost None g found h e = cc
type_is_lost (Some value) g found h e = forbidden_lost value.word g found h e

-- where the names and the first type show a fault, what was shown is lost
shown_lost : (place : ℕ) (g : MemberSlots) (shown : List What) → Here [] (blank place).slots g shown → members_fail shown ≡ true → is_lost g ≡ true
shown_lost place g shown h e = elim (or_cases (repeats [] (names shown)) (type_fails (first_type shown) (names shown)) e) [
  | inl again ↦ or_left (is_some g.repeated) _ (h.repeated ∙ again)
  | inr typed ↦
      or_right (is_some g.repeated) _
      (type_is_lost g.type_value g (names shown) h.slots (ap (λ (o : Option Word). type_fails o (names shown)) h.type_word ∙ typed))
]

-- ---- the text's value

-- from a state before a value that comes to these faults
pub record Answers (v : Tree) (events : List Event) (s : State) : Type 0 where
  pub sound : core_lost s.core ≡ true → faults Role.Root v ≡ [] → ⊥
  pub early : is_doomed events ≡ true → core_lost s.core ≡ true

done_answer : (xs : List Told) (k : ℕ) (g : Frame) (a : Findings) → (run xs (st k Done g [] a)).core.answer ≡ a
done_answer [] k g a = refl
done_answer (x ∷ xs) zero g a = done_answer xs zero g a
done_answer (x ∷ xs) (suc k) g a = done_answer xs (skip (event_of x).what (suc k)) g a

-- a value that is no object
no_object : (v : Tree) (xs : List Told) (place k : ℕ) (g : Frame) (events : List Event) (w : Warnings) → (faults Role.Root v ≡ [] → ⊥)
    → Answers v events (run xs (st k Done g [] (record { fault = Some (fault_at place G1); warned = w })))
no_object v xs place k g events w some = record {
  sound = λ e. some;
  early = λ e. or_left _ _ (ap (λ (x : Findings). is_some x.fault) (done_answer xs k g (record { fault = Some (fault_at place G1); warned = w })));
}

-- nothing is lost before an event has come
not_both : (b : Bool) → b ≡ false → b ≡ true → ⊥
not_both b e h = cc

root_sound : (had : Warnings) → core_lost (due_root had).core ≡ false
unfolding S.members_fault
root_sound had = refl

start_sound : core_lost start.core ≡ false
unfolding S.members_fault
start_sound = refl

-- no event of the value has come
before_value : (v : Tree) (had : Warnings) → Answers v [] (due_root had)
before_value v had = record { sound = λ e n. not_both (core_lost (due_root had).core) (root_sound had) e; early = λ e. cc }

abbrev object_st : ℕ → Warnings → State
object_st place had = st 0 Names (blank place) [] (had_found had)

object_answers : (place close : ℕ) (ms : Members) (had : Warnings) (done rest : List Told) → members_told ms ++ last_of close ∷ [] ≡ done ++ rest
    → Answers (object place ms close) (map event_of (plain (place + 1) place W.OpenObject ∷ done)) (run done (object_st place had))
object_answers place close ms had done rest e = elim (members_cut ms [] (blank place) (had_found had) close done rest (blank_shows place) e) [
  | inl c ↦ cut c
  | inr c ↦ end c
]
  where
    s : State
    s = run done (object_st place had)

    last : Frame
    last = F.members_taken ms (blank place)

    value : Tree
    value = object place ms close

    cut : Cut [] (blank place).slots (S.members_taken ms (blank place).slots) (had_found had) (own 1 done) s
        → Answers value (map event_of (plain (place + 1) place W.OpenObject ∷ done)) s
    cut c =
        let still : is_some s.core.answer.fault ≡ false = ap (λ (x : Findings). is_some x.fault) c.still in record {
          sound = λ l. lost_faults place close ms (c.onward (subst (λ (b : Bool). (b || is_lost (root s)) ≡ true) still l));
          early = λ d. or_right (is_some s.core.answer.fault) (is_lost (root s)) (shown_lost place (root s) (own 1 done) c.here d);
        }

    end : End [] (blank place) ms close done → Answers value (map event_of (plain (place + 1) place W.OpenObject ∷ done)) s
    end c =
        let last_state : State = run (last_of close ∷ []) (st 0 Names last [] (had_found had)) in
        let comes : s ≡ last_state =
        ap (λ (ts : List Told). run ts (object_st place had)) c.whole
        ∙ (run_end (members_told ms) (last_of close ∷ []) (object_st place had)
        ∙ ap (λ (z : State). run (last_of close ∷ []) z) (members_run ms [] (blank place) (had_found had) (blank_shows place))) in
        let lost : core_lost last_state.core ≡ (is_some (F.settled last).fault || is_lost last.slots) = refl in
        let shown : is_lost last.slots ≡ is_lost (S.members_taken ms (blank place).slots) = ap is_lost (members_shown ms (blank place)) in
        subst (λ (z : State). Answers value (map event_of (plain (place + 1) place W.OpenObject ∷ done)) z) (sym comes)
        (record {
          sound = λ l. elim (or_cases (is_some (F.settled last).fault) (is_lost last.slots) l) [
            | inl some ↦ closed_faults place close ms some
            | inr some ↦ lost_faults place close ms (sym shown ∙ some)
          ];
          early = λ d. or_right (is_some (F.settled last).fault) (is_lost last.slots)
              (shown ∙ shown_lost place (S.members_taken ms (blank place).slots) (own 1 done) c.here d);
        })
      where
        run_end : (xs ys : List Told) (z : State) → run (xs ++ ys) z ≡ run ys (run xs z)
        run_end [] ys z = refl
        run_end (x ∷ xs) ys z = run_end xs ys (step x z)

-- the first event of a value, and those after it
value_answers : (v : Tree) (had : Warnings) (done rest : List Told) → told v ≡ done ++ rest → Answers v (map event_of done) (run done (due_root had))
value_answers v had [] rest e = before_value v had
value_answers (constant Null place) had (x ∷ d) rest e =
    let f : plain (place + 4) place W.Null ≡ x = cc in
    subst (λ (z : Told). Answers (constant Null place) (map event_of (z ∷ d)) (run (z ∷ d) (due_root had))) f
    (no_object (constant Null place) d place 0 _ _ had (λ n. cc))
value_answers (constant True place) had (x ∷ d) rest e =
    let f : plain (place + 4) place W.True ≡ x = cc in
    subst (λ (z : Told). Answers (constant True place) (map event_of (z ∷ d)) (run (z ∷ d) (due_root had))) f
    (no_object (constant True place) d place 0 _ _ had (λ n. cc))
value_answers (constant False place) had (x ∷ d) rest e =
    let f : plain (place + 5) place W.False ≡ x = cc in
    subst (λ (z : Told). Answers (constant False place) (map event_of (z ∷ d)) (run (z ∷ d) (due_root had))) f
    (no_object (constant False place) d place 0 _ _ had (λ n. cc))
value_answers (number place literal end) had (x ∷ d) rest e =
    let f : plain (end + 1) place (W.Number (value_of literal)) ≡ x = cc in
    subst (λ (z : Told). Answers (number place literal end) (map event_of (z ∷ d)) (run (z ∷ d) (due_root had))) f
    (no_object (number place literal end) d place 0 _ _ had (λ n. cc))
value_answers (string place content end) had (x ∷ d) rest e =
    let f : plain end place (W.Text (word_of content)) ≡ x = cc in
    subst (λ (z : Told). Answers (string place content end) (map event_of (z ∷ d)) (run (z ∷ d) (due_root had))) f
    (no_object (string place content end) d place 0 _ _ had (λ n. cc))
value_answers (array place es close) had (x ∷ d) rest e =
    let f : plain (place + 1) place W.OpenArray ≡ x = cc in
    subst (λ (z : Told). Answers (array place es close) (map event_of (z ∷ d)) (run (z ∷ d) (due_root had))) f
    (no_object (array place es close) d place 1 _ _ had (λ n. cc))
value_answers (object place ms close) had (x ∷ d) rest e =
    let f : plain (place + 1) place W.OpenObject ≡ x = cc in
    let g : members_told ms ++ last_of close ∷ [] ≡ d ++ rest = cc in
    subst (λ (z : Told). Answers (object place ms close) (map event_of (z ∷ d)) (run (z ∷ d) (due_root had))) f (object_answers place close ms had d rest g)

-- no value begins with a mark
unmarked : (v : Tree) (done rest : List Told) → told v ≡ done ++ rest → value_fails (whats done) ≡ true → is_doomed (map event_of done) ≡ true
unmarked v [] rest e h = h
unmarked (constant Null place) (x ∷ d) rest e h = let f : plain (place + 4) place W.Null ≡ x =
    cc in subst (λ (z : Told). is_doomed (map event_of (z ∷ d)) ≡ true) f refl
unmarked (constant True place) (x ∷ d) rest e h = let f : plain (place + 4) place W.True ≡ x =
    cc in subst (λ (z : Told). is_doomed (map event_of (z ∷ d)) ≡ true) f refl
unmarked (constant False place) (x ∷ d) rest e h = let f : plain (place + 5) place W.False ≡ x =
    cc in subst (λ (z : Told). is_doomed (map event_of (z ∷ d)) ≡ true) f refl
unmarked (number place literal end) (x ∷ d) rest e h = let f : plain (end + 1) place (W.Number (value_of literal)) ≡ x =
    cc in subst (λ (z : Told). is_doomed (map event_of (z ∷ d)) ≡ true) f refl
unmarked (string place content end) (x ∷ d) rest e h = let f : plain end place (W.Text (word_of content)) ≡ x =
    cc in subst (λ (z : Told). is_doomed (map event_of (z ∷ d)) ≡ true) f refl
unmarked (array place es close) (x ∷ d) rest e h = let f : plain (place + 1) place W.OpenArray ≡ x =
    cc in subst (λ (z : Told). is_doomed (map event_of (z ∷ d)) ≡ true) f refl
unmarked (object place ms close) (x ∷ d) rest e h =
    let f : plain (place + 1) place W.OpenObject ≡ x = cc in
    let k : value_fails (whats (plain (place + 1) place W.OpenObject ∷ d)) ≡ true =
    subst (λ (z : Told). value_fails (whats (z ∷ d)) ≡ true) (sym f) h in
    subst (λ (z : Told). is_doomed (map event_of (z ∷ d)) ≡ true) f k

marked_answers : (marked : Bool) (v : Tree) (done rest : List Told) → mark_told marked ++ told v ≡ done ++ rest → Answers v (map event_of done) (run done start)
marked_answers false v done rest e = value_answers v (marked_kept false) done rest e
marked_answers true v [] rest e = record { sound = λ l n. not_both (core_lost start.core) start_sound l; early = λ l. cc }
marked_answers true v (x ∷ d) rest e =
    let f : plain 3 0 W.Mark ≡ x = cc in
    let g : told v ≡ d ++ rest = cc in
    let a = value_answers v (marked_kept true) d rest g in
    subst (λ (z : Told). Answers v (map event_of (z ∷ d)) (run (z ∷ d) start)) f
    (record { sound = a.sound; early = λ h. a.early (unmarked v d rest g h) })

-- ---- the rules

pub answers : {frames : ℕ} (rules : FramedRules frames) (text : Text) (bytes : List ℕ) (n : ℕ) → IsText text bytes → depth text.value ≤ levels_within frames
    → StandsFor rules (events_by n text)
    → (core_lost (core_of rules) ≡ true → text_faults text ≡ [] → ⊥) × (is_doomed (events_by n text) ≡ true → core_lost (core_of rules) ≡ true)
answers rules text bytes n t d h =
    let front = front_text text bytes n t in
    let e : map event_of front.done ≡ events_by n text = front.complete ∙ ap (λ (xs : List E.Timed). by n xs) (text-timed text) in
    let k = h text front.done front.rest front.split e d in
    let a = marked_answers text.marked text.value front.done front.rest front.split in (
      λ l. a.sound (ap core_lost (sym k.0) ∙ l),
      λ l. ap core_lost k.0 ∙ a.early (ap is_doomed e ∙ l),
    )

-- What the events in the first bytes of a text report of its features, and what more events report.
use Rattle.gj_rules.proofs.Common.{AllByRecursion, Bool, Core, Event, FeatureCount, FeaturesAre, Findings, Frame, FramedRules, IsText, List}
use Rattle.gj_rules.proofs.Common.{MOST_FRAMES, Mode, State, Text, Told, Tree, What, all_events, ap, append_assoc, arith, at_of, by, cases_lt, complete_at}
use Rattle.gj_rules.proofs.Common.{complete_in, core_of, depth, event_of, events_by, false, features_by, features_from, features_of, inl, inr, length}
use Rattle.gj_rules.proofs.Common.{length-map, map, map-append, most_levels, nat_le, nat_tests, refl, run, start, step, subst, suc, sym}
use Rattle.gj_rules.proofs.Common.{text_told, true, [], ◌++◌, ◌+◌, ◌<◌, ◌^◌, ◌∙◌, ◌∷◌, ◌≤◌}
use Rattle.std.proofs.Common.{◌≡◌, ℕ, None, append-nil}
use Rattle.std.proofs.lemmas.List.{length-append}
use Rattle.gj_json.specs.Events as E
use Rattle.gj_rules.specs.declared.feature.Feature.{Feature}
use Rattle.gj_rules.specs.Rules.{StandsFor}
use Rattle.gj_rules.specs.Internal.FeatureSteps.{Heard, IsHeard, TimedFeature, at_element, at_end, at_id, begins, ended, ends, feature_of, features_in}
use Rattle.gj_rules.specs.Internal.FeatureSteps.{hear, hear_at, hears, in_array, timed_from, unheard}
use Rattle.gj_rules.proofs.Features.FeatureEvents.{text_heard}
use Rattle.gj_rules.proofs.Texts.EventOrder.{Late, InOrder, late_after, by_late, by_in_time, in_order, InTime}
use Rattle.gj_rules.proofs.Texts.OneEventMore.{none_told}
use Rattle.gj_rules.proofs.Texts.OneFlatMore.{split_told}
use Rattle.gj_rules.proofs.Texts.TimedEvents.{timed_of, text-timed, text-events}
use Rattle.gj_rules.proofs.Texts.ValuesByEvents.{Leads, leads_at, text_found, lead_text}
use Rattle.gj_rules.proofs.Texts.WholePoints.{one_told}

-- ---- the events in the first bytes

record Cut (n : ℕ) (xs : List Told) : Type 0 where
  done : List Told
  rest : List Told
  split : xs ≡ done ++ rest
  first : InTime n done
  last : Late n rest
  complete : map event_of done ≡ by n (map timed_of xs)

cut_at : (n : ℕ) (xs : List Told) → InOrder xs → Cut n xs
cut_at n [] i = record { done = []; rest = []; split = refl; first = tt; last = tt; complete = refl }
cut_at n (x ∷ xs) i =
    elim (cases_lt n (at_of x)) [
      | inr l ↦ on x xs l (cut_at n xs i.1)
      | inl l ↦ record {
        done = [];
        rest = x ∷ xs;
        split = refl;
        first = tt;
        last = (l, late_after n (at_of x) xs l i.0);
        complete =
            sym (by_late n (x ∷ xs) (l, late_after n (at_of x) xs l i.0));
      }
    ]
  where
    on : (x : Told) (xs : List Told) → at_of x ≤ n → Cut n xs → Cut n (x ∷ xs)
    on x xs l h = record {
      done = x ∷ h.done;
      rest = h.rest;
      split = ap (λ (ys : List Told). x ∷ ys) h.split;
      first = (l, h.first);
      last = h.last;
      complete = ap (λ (es : List Event). event_of x ∷ es) h.complete ∙ sym (by_in_time n x xs l);
    }

-- ---- what they report

abbrev Soon : ℕ → List TimedFeature → Type 0
Soon n ts = AllByRecursion (λ (t : TimedFeature). t.at ≤ n) ts

abbrev Later : ℕ → List TimedFeature → Type 0
Later n ts = AllByRecursion (λ (t : TimedFeature). n < t.at) ts

-- these features more are reported, which are complete then
record Reports (at : ℕ) (before after : Heard) : Type 0 where
  more : List TimedFeature
  few : length more ≤ 1
  soon : (n : ℕ) → at ≤ n → Soon n more
  later : (n : ℕ) → n < at → Later n more
  told : after.told ≡ before.told ++ more

no_report : (at : ℕ) (before after : Heard) → after.told ≡ before.told → Reports at before after
no_report at before after e =
    record { more = []; few = omega arith; soon = λ n l. tt; later = λ n l. tt; told = e ∙ sym (append-nil before.told) }

begun_report : (b : Bool) (place : ℕ) (h : Heard) → (begins b place h).told ≡ h.told
begun_report true place h = refl
begun_report false place h = refl

ended_report : (b : Bool) (at : ℕ) (feature : Feature) (before h : Heard) → h.told ≡ before.told → Reports at before (ends b at feature h)
ended_report false at feature before h e = no_report at before h e
ended_report true at feature before h e = record {
  more = record { at = at; feature = feature } ∷ [];
  few = omega arith;
  soon = λ n l. (l, tt);
  later = λ n l. (l, tt);
  told = ap (λ ts. ts ++ record { at = at; feature = feature } ∷ []) e;
}

reports : (k : ℕ) (m : Mode) (top : Frame) (what : What) (place at : ℕ) (h : Heard) → Reports at h (hear_at k m top what place at h)
reports k m top (What.Name name) place at h = no_report at h h refl
reports k m top What.OpenObject place at h = no_report at h (begins (at_id k m top.slots.role) place h) (begun_report (at_id k m top.slots.role) place h)
reports k m top What.OpenArray place at h =
    let g : Heard = begins (at_id k m top.slots.role) place h in
    no_report at h (begins (at_element k m) place g) (begun_report (at_element k m) place g ∙ begun_report (at_id k m top.slots.role) place h)
reports k m top What.CloseObject place at h = ended_report (at_end k m top.slots.role) at _ h h refl
reports k m top What.CloseArray place at h = ended_report (in_array k m) at _ h h refl
reports k m top _ place at h = ended_report (at_element k m) at _ h (begins (at_id k m top.slots.role) place h) (begun_report (at_id k m top.slots.role) place h)

-- of events in a row
record AllReport (xs : List Told) (before after : Heard) : Type 0 where
  more : List TimedFeature
  few : length more ≤ length xs
  soon : (n : ℕ) → InTime n xs → Soon n more
  later : (n : ℕ) → Late n xs → Later n more
  told : after.told ≡ before.told ++ more

both : (P : TimedFeature → Type 0) (xs ys : List TimedFeature) → AllByRecursion P xs → AllByRecursion P ys → AllByRecursion P (xs ++ ys)
both P [] ys h k = k
both P (x ∷ xs) ys h k = (h.0, both P xs ys h.1 k)

all_report : (xs : List Told) (s : State) (h : Heard) → AllReport xs h (hears xs s h)
all_report [] s h = record { more = []; few = omega arith; soon = λ n l. tt; later = λ n l. tt; told = sym (append-nil h.told) }
all_report (x ∷ xs) s h =
    let one = reports s.core.skipped s.core.mode s.core.top (event_of x).what (event_of x).place (at_of x) h in
    let on = all_report xs (step x s) (hear x s h) in
    record {
      more = one.more ++ on.more;
      few = omega (arith, one.few, on.few, length-append one.more on.more);
      soon = λ n l. both (λ (t : TimedFeature). t.at ≤ n) one.more on.more (one.soon n l.0) (on.soon n l.1);
      later = λ n l. both (λ (t : TimedFeature). n < t.at) one.more on.more (one.later n l.0) (on.later n l.1);
      told = on.told ∙ (ap (λ ts. ts ++ on.more) one.told ∙ append_assoc h.told one.more on.more);
    }

pub hears-append : (xs ys : List Told) (s : State) (h : Heard) → hears (xs ++ ys) s h ≡ hears ys (run xs s) (hears xs s h)
hears-append [] ys s h = refl
hears-append (x ∷ xs) ys s h = hears-append xs ys (step x s) (hear x s h)

soon_are : (n : ℕ) (xs ys : List TimedFeature) (i : ℕ) (vs : List Tree) → Soon n xs → Later n ys → xs ++ ys ≡ timed_from i vs
    → features_in xs ≡ features_from i (complete_in n vs)
soon_are n [] ys i [] h k e = refl
soon_are n [] [] i (v ∷ vs) h k e = cc
soon_are n [] (y ∷ ys) i (v ∷ vs) h k e =
    let f : y.at ≡ complete_at v = ap (λ (t : TimedFeature). t.at) (first_same y ys _ _ e) in
    let l : n < y.at = k.0 in
    let g : nat_le (complete_at v) n ≡ false = grind (arith, nat_tests) in
    rw g refl
  where
    first_same : (a : TimedFeature) (more : List TimedFeature) (b : TimedFeature) (others : List TimedFeature) → a ∷ more ≡ b ∷ others → a ≡ b
    first_same a more b others e = cc
soon_are n (x ∷ xs) ys i [] h k e = cc
soon_are n (x ∷ xs) ys i (v ∷ vs) h k e =
    let p : x ≡ record { at = complete_at v; feature = feature_of i v } = cc in
    let q : xs ++ ys ≡ timed_from (suc i) vs = cc in
    let f : x.at ≡ complete_at v = ap (λ (t : TimedFeature). t.at) p in
    let l : x.at ≤ n = h.0 in
    let g : nat_le (complete_at v) n ≡ true = grind (arith, nat_tests) in
    rw g (ap (λ (t : TimedFeature). t.feature ∷ features_in xs) p ∙ ap (λ fs. feature_of i v ∷ fs) (soon_are n xs ys (suc i) vs h.1 k q))

-- what was reported of a prefix of a text is what the definition lists of it
pub features_are : (Says : List Feature → Type 0) (c : FeatureCount) (text : Text) (bytes : List ℕ) (n : ℕ) → IsText text bytes → depth text.value ≤ most_levels
    → length (all_events text) < 2 ^ 63
    → FeaturesAre Says c (events_by n text) → Says (features_by n text)
features_are Says c text bytes n t d few h =
    let k = cut_at n (text_told text) (in_order text bytes t) in
    let e : map event_of k.done ≡ events_by n text = k.complete ∙ ap (λ (xs : List E.Timed). by n xs) (text-timed text) in
    let l : length (text_told text) ≡ length (all_events text) = sym (length-map (text_told text) event_of) ∙ ap length (text-events text) in
    let so_far : Heard = hears k.done start unheard in
    let first = all_report k.done start unheard in
    let last = all_report k.rest (run k.done start) so_far in
    let all : first.more ++ last.more ≡ timed_from 0 (features_of text.value) =
    ap (λ ts. ts ++ last.more) (sym first.told) ∙ (sym last.told ∙ (ap (λ (u : Heard). u.told) (sym (hears-append k.done k.rest start unheard))
    ∙ (ap (λ (xs : List Told). (hears xs start unheard).told) (sym k.split) ∙ text_heard text d))) in
    subst Says
    (ap features_in first.told
    ∙ soon_are n first.more last.more 0 (features_of text.value) (first.soon n k.first) (last.later n k.last) all)
    (h text k.done k.rest k.split e d (omega (arith, few, l))).2

all_in : (i : ℕ) (vs : List Tree) → features_in (timed_from i vs) ≡ features_from i vs
all_in i [] = refl
all_in i (v ∷ vs) = ap (λ fs. feature_of i v ∷ fs) (all_in (suc i) vs)

-- what was reported of a whole text is what the definition lists of it
pub all_features_are : (Says : List Feature → Type 0) (c : FeatureCount) (text : Text) → depth text.value ≤ most_levels → length (all_events text) < 2 ^ 63
    → FeaturesAre Says c (all_events text) → Says (features_from 0 (features_of text.value))
all_features_are Says c text d few h =
    let l : length (text_told text) ≡ length (all_events text) = sym (length-map (text_told text) event_of) ∙ ap length (text-events text) in
    subst Says (ap features_in (text_heard text d) ∙ all_in 0 (features_of text.value))
    (h text (text_told text) [] (sym (append-nil (text_told text))) (text-events text) d (omega (arith, few, l))).2

-- ---- more events

-- a feature more was reported
pub ended_heard : (Old New : List Feature → Type 0) (c d : FeatureCount) (at : ℕ) (feature : Feature) (h : Heard) → (c.index < 2 ^ 63 → d.index ≡ suc c.index)
    → d.begun ≡ None → ((fs : List Feature) → Old fs → New (fs ++ feature ∷ [])) → length h.told < 2 ^ 63 → IsHeard Old c h → IsHeard New d (ended at feature h)
ended_heard Old New c d at feature h next none tells few was =
    let one : List TimedFeature = record { at = at; feature = feature } ∷ [] in (
      omega (arith, next (omega (arith, was.0, few)), was.0, length-append h.told one),
      none,
      subst New (sym (map-append (λ (t : TimedFeature). t.feature) h.told one)) (tells (features_in h.told) was.2),
    )

-- Where they come, in a text, after those that led the rules to this, they report what was reported until then.
abbrev pub Continues : (Old New : List Feature → Type 0) (c d : FeatureCount) → Core → List Event → Type 0
Continues Old New c d core inner =
    (xs rest : List Told) (s : State) (z : Findings) (h : Heard) → map event_of xs ≡ inner → core ≡ s.core → Leads MOST_FRAMES (xs ++ rest) s z
    → length h.told < 2 ^ 63 → IsHeard Old c h → IsHeard New d (hears xs s h)

pub more_heard : (Old New : List Feature → Type 0) (rules : FramedRules MOST_FRAMES) (c d : FeatureCount) (events inner : List Event)
    → Continues Old New c d (core_of rules) inner → StandsFor rules events → FeaturesAre Old c events → FeaturesAre New d (events ++ inner)
more_heard Old New rules c d events inner on stands h text done rest split e deep few =
    let k = split_told done events inner e in
    let whole : text_told text ≡ k.0 ++ (k.1 ++ rest) = split ∙ (ap (λ (ts : List Told). ts ++ rest) k.2 ∙ append_assoc k.0 k.1 rest) in
    let was = h text k.0 (k.1 ++ rest) whole k.3 deep few in
    let leads : Leads MOST_FRAMES (k.1 ++ rest) (run k.0 start) (text_found text) = leads_at MOST_FRAMES k.0 (k.1 ++ rest) start (text_found text)
    (subst (λ (ts : List Told). Leads MOST_FRAMES ts start (text_found text)) whole (lead_text MOST_FRAMES rules.few text deep)) in
    let first = all_report k.0 start unheard in
    let long : length (text_told text) ≡ length k.0 + length (k.1 ++ rest) = ap length whole ∙ length-append k.0 (k.1 ++ rest) in
    let same : length (hears k.0 start unheard).told ≡ length first.more = ap length first.told in
    subst (IsHeard New d) (sym (ap (λ (ts : List Told). hears ts start unheard) k.2 ∙ hears-append k.0 k.1 start unheard))
    (on k.1 rest (run k.0 start) (text_found text) (hears k.0 start unheard) k.4 (stands text k.0 (k.1 ++ rest) whole k.3 deep).0 leads
    (omega (arith, few, long, same, first.few)) was)

-- one event, of which this is heard
pub one_more : (Old New : List Feature → Type 0) (c d : FeatureCount) (core : Core) (event : Event)
    → ((at : ℕ) (h : Heard) → length h.told < 2 ^ 63 → IsHeard Old c h → IsHeard New d (hear_at core.skipped core.mode core.top event.what event.place at h))
    → Continues Old New c d core (event ∷ [])
one_more Old New c d core event says xs rest s z h e same leads few was =
    let k = one_told xs event e in
    subst (λ (ts : List Told). IsHeard New d (hears ts s h)) (sym k.1)
    (subst (λ (q : Core). IsHeard New d (hear_at q.skipped q.mode q.top (event_of k.0).what (event_of k.0).place (at_of k.0) h)) same
    (subst (λ (y : Event). IsHeard New d (hear_at core.skipped core.mode core.top y.what y.place (at_of k.0) h)) (sym k.2) (says (at_of k.0) h few was)))

pub started : (Says : List Feature → Type 0) (c : FeatureCount) → c.index ≡ 0 → c.begun ≡ None → Says [] → FeaturesAre Says c []
started Says c i b h text done rest split e d few = rw (none_told done e) (i, b, h)

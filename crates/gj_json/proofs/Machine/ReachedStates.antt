-- What holds of each state that some bytes lead to, and so of all texts that begin by these bytes.
use Rattle.gj_json.proofs.Common.{Close, Event, FitsBroken, Go, IsText, IsTimely, Level, List, Mode, Move, None, Open, Option, Refuse, Some, StandsAs}
use Rattle.gj_json.proofs.Common.{Text, TextDue, ValueDone, ap, arith, emitted, events_by, inner_of, length, move_of, open_at, opened, outer_of, refl}
use Rattle.gj_json.proofs.Common.{run, run_from, seen, start_after, step, subst, sym, under_of, ℕ, [], ◌*◌, ◌++◌, ◌+◌, ◌∙◌, ◌∷◌, ◌≡◌, ◌≤◌}
use Rattle.std.proofs.Common.{length-append}
use Rattle.gj_json.specs.Internal.TextMachine.{Broken, text_due}
use Rattle.gj_json.proofs.Machine.BytesUnderWay.{run_none}
use Rattle.gj_json.proofs.Machine.Completions.{Goes, TextFrom}
use Rattle.gj_json.proofs.Machine.MachineTexts.{text_goes_on}
use Rattle.gj_json.proofs.Readers.NumberUnderWay.{own_turn, own_turns, own_value, own_has, own_words, own_has_words}
use Rattle.gj_json.proofs.Readers.Simulation.{Follows, moves}
use Rattle.gj_json.proofs.Events.OpenContainers.{open_levels}
use Rattle.gj_json.proofs.Events.PastEvents.{events_seen}
use Rattle.gj_json.proofs.Events.EventsOfSteps.{Tells, all_at, step_tells, timely_on, length-all_at, emitted_few}

-- n bytes lead to the state: what a reader could keep for it, how many events it has seen, and a depth from which on it
-- fits
pub record IsReached (state : Broken) (n : ℕ) : Type 0 where
  pub mode : Mode
  pub levels : List Level
  pub start : ℕ
  pub kept : StandsAs state mode levels
  pub timely : IsTimely state start n
  pub few : length (seen state) ≤ 2 * n
  pub depth : ℕ
  pub fits : (more : ℕ) → FitsBroken (depth + more) state

abbrev Next : Broken → ℕ → Type 0
Next next depth = (mode : Mode) × (levels : List Level) × StandsAs next mode levels × ((more : ℕ) → FitsBroken (depth + more) next)

moved : (levels : List Level) (move : Move) (next : Broken) (depth : ℕ) → length levels + 1 ≤ depth
    → ((more : ℕ) → Follows (depth + more) levels move (Some next)) → Next next depth
moved levels Refuse next depth l h = let e : Some next ≡ None = h 0 in cc
moved levels (Go mode ending) next depth l h = (mode, levels, (h 0).0, λ more. (h more).1)
moved levels (Open level) next depth l h = (opened level, level ∷ levels, (h 0).0, λ more. (h more).1 (omega arith))
moved levels (Close level) next depth l h = (ValueDone, outer_of levels, (h 0).0, λ more. (h more).1)

seen_few : (n : ℕ) (s next : Broken) (es : List Event) → length (seen s) ≤ 2 * n → length es ≤ 2 → seen next ≡ seen s ++ all_at (n + 1) es
    → length (seen next) ≤ 2 * (n + 1)
seen_few n s next es h k e = omega (arith, ap length e, length-append (seen s) (all_at (n + 1) es), length-all_at (n + 1) es)

reached_on : (s next : Broken) (n b : ℕ) → IsReached s n → step s n b ≡ Some next → IsReached next (n + 1)
reached_on s next n b k e =
    let turn = own_turn (under_of s) b in
    let turns = own_turns (under_of s) b in
    let value = own_value (under_of s) in
    let words = own_words (under_of s) in
    let deep = k.depth + (length k.levels + 1) in
    let P : Option Broken → ℕ → Type 0 = λ o d. Follows d k.levels (move_of k.mode turn (inner_of k.levels) words b) o in
    let follows : (more : ℕ) → P (Some next) (deep + more) = λ more.
    let Q : ℕ → Type 0 = λ d. FitsBroken d s in
    let f : FitsBroken (deep + more) s = subst Q (omega arith) (k.fits (length k.levels + 1 + more)) in
    let R : Option Broken → Type 0 = λ o. P o (deep + more) in
    subst R e (moves (deep + more) s k.mode turn words k.levels n b k.kept turns f) in
    let g = moved k.levels (move_of k.mode turn (inner_of k.levels) words b) next deep (omega arith) follows in
    let es = emitted k.mode turn (move_of k.mode turn (inner_of k.levels) words b) value k.start n in
    let T : Option Broken → Type 0 = λ o. Tells (seen s) (start_after k.mode k.start n) n es o in
    let t : T (Some next) =
    subst T e (step_tells value words s k.mode turn k.levels k.start n b k.kept turns (own_has (under_of s) turn)
    (own_has_words (under_of s)) k.timely.edge) in
    record {
      mode = g.0;
      levels = g.1;
      start = start_after k.mode k.start n;
      kept = g.2;
      timely = timely_on (seen s) (start_after k.mode k.start n) n es next k.timely.seen_by t;
      few = seen_few n s next es k.few (emitted_few k.mode turn _ value k.start n) t.0;
      depth = deep;
      fits = g.3;
    }

reached_from : (bytes : List ℕ) (s last : Broken) (n : ℕ) → IsReached s n → run_from (Some s) n bytes ≡ Some last → IsReached last (n + length bytes)
reached_from [] s last n k e =
    let f : s ≡ last = cc in
    let P : Broken → ℕ → Type 0 = λ t m. IsReached t m in
    let Q : Broken → Type 0 = λ t. P t n in
    let R : ℕ → Type 0 = λ m. P last m in
    subst R (omega arith) (subst Q f k)
reached_from (b ∷ bytes) s last n k e = go (λ next f i. reached_from bytes next last (n + 1) (reached_on s next n b k f) i) (step s n b) refl e
  where
    go : ((next : Broken) → step s n b ≡ Some next → run_from (Some next) (n + 1) bytes ≡ Some last → IsReached last (n + 1 + length bytes))
        → (o : Option Broken) → step s n b ≡ o → run_from o (n + 1) bytes ≡ Some last → IsReached last (n + length (b ∷ bytes))
    go ih None f e = let g : None ≡ Some last = sym (run_none bytes (n + 1)) ∙ e in cc
    go ih (Some next) f e = let R : ℕ → Type 0 = λ m. IsReached last m in subst R (omega arith) (ih next f e)

pub reached : (bytes : List ℕ) (s : Broken) → run bytes ≡ Some s → IsReached s (length bytes)
reached bytes s e =
    let begins : IsReached text_due 0 = record {
      mode = TextDue;
      levels = [];
      start = 0;
      kept = (refl, refl);
      timely = record { seen_by = tt; edge = refl };
      few = omega arith;
      depth = 0;
      fits = λ more. tt;
    } in
    let R : ℕ → Type 0 = λ m. IsReached s m in
    subst R (omega arith) (reached_from bytes text_due s 0 begins e)

-- ---- texts that begin alike

abbrev Alike : Text → Text → ℕ → Type 0
Alike T U n = (events_by n T ≡ events_by n U) × (open_at n T ≡ open_at n U)

pub alike : (bytes more other : List ℕ) (T U : Text) → IsText T (bytes ++ more) → IsText U (bytes ++ other) → Alike T U (length bytes)
alike bytes more other T U h k = go (run bytes) refl (text_goes_on T bytes more h) (text_goes_on U bytes other k)
  where
    go : (o : Option Broken) → run bytes ≡ o → Goes (TextFrom T (length bytes) more) o → Goes (TextFrom U (length bytes) other) o → Alike T U (length bytes)
    go None e a b = absurd a
    go (Some s) e a b =
        let r = reached bytes s e in (
          events_seen s T (length bytes) r.start more r.timely a ∙ sym (events_seen s U (length bytes) r.start other r.timely b),
          sym (open_levels s r.mode r.levels T (length bytes) r.start more r.kept r.timely a)
              ∙ open_levels s r.mode r.levels U (length bytes) r.start other r.kept r.timely b,
        )

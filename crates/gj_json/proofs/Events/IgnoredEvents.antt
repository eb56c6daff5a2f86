-- Events that do not matter, one after another.
use Rattle.gj_json.proofs.Common.{Applied, Array, Close, Ending, Err, Event, Exact, FeedsAll, FeedsTo, FeedsWithin, Go, JsonFault, Leaves}
use Rattle.gj_json.proofs.Common.{Level, List, Mode, Move, Null, NumberOn, NumberTurn, Object, OfPrefix, Ok, Open, Option, Reader, Refuse, Result, Takes}
use Rattle.gj_json.proofs.Common.{above, ap, arith, emitted, ending_event, inl, inr, length, move_by, number_events, option_to_list, outer_of, refl}
use Rattle.gj_json.proofs.Common.{subst, suc, sym, told_by, told_on, zero, ℕ, [], ◌++◌, ◌+◌, ◌-◌, ◌<◌, ◌∷◌, ◌≡◌, ◌≤◌}
use Rattle.std.specs.Prelude.{MatchResult, take}
use Rattle.std.proofs.lemmas.Bool.{cases_eq}
use Rattle.gj_json.specs.Internal.FedReader.{Feeds, FeedsWithinTo}
use Rattle.gj_json.specs.Internal.OpenLevels.{levels_in}
use Rattle.gj_json.specs.Ignored.{levels_behind}

leaves_more : (k m n : ℕ) (first next : List Event) → Leaves k first m → Leaves m next n → Leaves k (first ++ next) n
leaves_more k m n [] next h l = rw h l
leaves_more zero m n (e ∷ first) next h l = absurd h
leaves_more (suc k) m n (e ∷ first) next h l = leaves_more (levels_behind e.what (suc k)) m n first next h l

-- ---- the events of one byte

number_first : (mode : Mode) (turn : NumberTurn) (k left start : ℕ) (value : Option Exact) (es : List Event) → Leaves (suc k) es left
    → Leaves (suc k) (number_events mode turn value start ++ es) left
number_first NumberOn NumberTurn.Ends k left start value es h = h
number_first other another k left start value es h = h

ending_leaves : (k start : ℕ) (ending : Ending) → Leaves (suc k) (option_to_list (ending_event ending start)) (suc k)
ending_leaves k start (Ending.Literal Null) = refl
ending_leaves k start other = refl

-- how many levels are left to close after this move
abbrev left_after : Move → ℕ → ℕ
left_after (Open level) m = m + 1
left_after (Close level) m = m - 1
left_after _ m = m

move_leaves : (m : ℕ) (mode : Mode) (turn : NumberTurn) (made : Move) (value : Option Exact) (start n : ℕ) → 0 < m
    → Leaves m (emitted mode turn made value start n) (left_after made m)
move_leaves zero mode turn made value start n h = absurd (omega arith)
move_leaves (suc k) mode turn Refuse value start n h = number_first mode turn k (suc k) start value [] refl
move_leaves (suc k) mode turn (Go next ending) value start n h = number_first mode turn k (suc k) start value _ (ending_leaves k start ending)
move_leaves (suc k) mode turn (Open Array) value start n h = number_first mode turn k (suc k + 1) start value _ refl
move_leaves (suc k) mode turn (Open Object) value start n h = number_first mode turn k (suc k + 1) start value _ refl
move_leaves (suc k) mode turn (Close Array) value start n h = number_first mode turn k (suc k - 1) start value _ refl
move_leaves (suc k) mode turn (Close Object) value start n h = number_first mode turn k (suc k - 1) start value _ refl

abbrev Within : ℕ → List Level → List Event → List Level → Type 0
Within floor old es new = Leaves (length old - floor) es (length new - floor) × (floor ≤ length new)

within_by : (floor : ℕ) (old new : List Level) (mode : Mode) (turn : NumberTurn) (made : Move) (value : Option Exact) (start n : ℕ) → floor < length old
    → left_after made (length old - floor) ≡ length new - floor → floor ≤ length new → Within floor old (emitted mode turn made value start n) new
within_by floor old new mode turn made value start n h e l = (
  subst (λ x. Leaves (length old - floor) (emitted mode turn made value start n) x) e
      (move_leaves (length old - floor) mode turn made value start n (omega arith)),
  l,
)

pub outer_length : (levels : List Level) → length (outer_of levels) ≡ length levels - 1
outer_length [] = refl
outer_length (level ∷ levels) = omega arith

applied_within : (floor : ℕ) (made : Move) (old new : Reader) (result : Result Move JsonFault) (mode : Mode) (turn : NumberTurn) (value : Option Exact)
    (start n : ℕ) → floor < length (levels_in old.levels) → length (levels_in old.levels) ≤ old.limits.depth
    → Applied made old new result → Within floor (levels_in old.levels) (told_on result (emitted mode turn made value start n)) (levels_in new.levels)
applied_within floor Refuse old new result mode turn value start n h d a =
    let e : levels_in new.levels ≡ levels_in old.levels = ap levels_in a.refused.levels_are in rw (a.answer, e) (refl, omega arith)
applied_within floor (Go next ending) old new result mode turn value start n h d a =
    rw (a.answer, a.passes.levels_are)
    (within_by floor (levels_in old.levels) (levels_in old.levels) mode turn (Go next ending) value start n h refl (omega arith))
applied_within floor (Open level) old new result mode turn value start n h d a = elim (cases_eq (length (levels_in old.levels)) old.limits.depth) [
  | inl e ↦ let r = a.0 e in let f : levels_in new.levels ≡ levels_in old.levels = ap levels_in r.refused.levels_are in rw (r.answer, f) (refl, omega arith)
  | inr e ↦ let p = a.1 (omega (arith, d, e)) in
      rw (p.answer, p.passes.levels_are)
      (within_by floor (levels_in old.levels) (level ∷ levels_in old.levels) mode turn (Open level) value start n h (omega arith) (omega arith))
]
applied_within floor (Close level) old new result mode turn value start n h d a =
    let l = outer_length (levels_in old.levels) in
    rw (a.answer, a.passes.levels_are)
    (within_by floor (levels_in old.levels) (outer_of (levels_in old.levels)) mode turn (Close level) value start n h (omega arith) (omega arith))

-- ---- a byte, and many

module _ (floor : ℕ) where
  byte_within : {before after : List Event → Type 0} (old new : Reader) (b : ℕ) (result : Result Move JsonFault) → floor < length (levels_in old.levels)
      → (t : Takes before after old new b result)
      → Within floor (levels_in old.levels) (told_on result (told_by old t.turn t.value b)) (levels_in new.levels)
  byte_within old new b result h t =
      applied_within floor (move_by old t.turn b) old new result old.mode t.turn t.value old.start old.offset h old.nested t.applied

  pub byte_floor : {before after : List Event → Type 0} (old mid new : Reader) (b : ℕ) (result : Result Move JsonFault) → mid.levels ≡ old.levels
      → floor < length (levels_in old.levels) → Takes before after mid new b result → floor ≤ length (levels_in new.levels)
  byte_floor old mid new b result e h t = (byte_within mid new b result (rw e h) t).1

  pub takes_within : {before after : List Event → Type 0} (old mid new : Reader) (b : ℕ) (result : Result Move JsonFault) → mid.levels ≡ old.levels
      → floor < length (levels_in old.levels) → Takes before after mid new b result
      → Takes (λ events. Leaves (above floor old) events (above floor mid)) (λ events. Leaves (above floor old) events (above floor new)) mid new b result
  takes_within old mid new b result e h t = record {
    turn = t.turn;
    value = t.value;
    says = t.says;
    goes = t.goes;
    applied = t.applied;
    told = λ events l. leaves_more (above floor old) (above floor mid) (above floor new) events (told_on result (told_by mid t.turn t.value b)) l
        (byte_within mid new b result (rw e h) t).0;
  }

-- what was reported within is heard so, where that does not matter
pub feeds_by : {before within after : List Event → Type 0} (old new : Reader) (given : List ℕ)
    → ((events inner : List Event) → before events → within inner → after (events ++ inner)) → Feeds (λ events. events ≡ []) within old new given
    → Feeds before after old new given
feeds_by old new given passes f = record {
  limits = f.limits;
  on = f.on;
  stands = f.stands;
  told = λ bytes events s h. let k = f.told bytes [] s refl in (k.0, passes events k.0 h k.1, k.2);
}

pub all_by : {before within after : List Event → Type 0} (old new : Reader) (given : List ℕ)
    → ((events inner : List Event) → before events → within inner → after (events ++ inner)) → FeedsAll (λ events. events ≡ []) within old new given
    → FeedsAll before after old new given
all_by {before} {within} {after} old new given passes f =
    record { feeds = feeds_by {before = before} {within = within} {after = after} old new given passes f.feeds; live = f.live; offset = f.offset }

pub all_as : {before after : List Event → Type 0} (m n : ℕ) (old new : Reader) (given : List ℕ)
    → ((events inner : List Event) → before events → Leaves m inner n → after (events ++ inner))
    → FeedsAll (λ events. events ≡ []) (λ events. Leaves m events n) old new given → FeedsAll before after old new given
all_as {before} {after} m n old new given passes f = all_by {before = before} {within = λ events. Leaves m events n} old new given passes f

pub to_as : {before after : List Event → Type 0} (m n : ℕ) (old new : Reader) (given : List ℕ) (fault : JsonFault)
    → ((events inner : List Event) → before events → Leaves m inner n → after (events ++ inner))
    → FeedsTo (λ events. events ≡ []) (λ events. Leaves m events n) old new given fault → FeedsTo before after old new given fault
to_as {before} m n old new given fault passes f =
    record { feeds = feeds_by {before = before} {within = λ events. Leaves m events n} old new given passes f.feeds; refused = f.refused }

-- where no level has opened or closed, nothing was reported so far
nothing_yet : (floor : ℕ) (old mid : Reader) (events : List Event) → mid.levels ≡ old.levels → events ≡ [] → Leaves (above floor old) events (above floor mid)
nothing_yet floor old mid events e h = rw h (ap (λ ls. length (levels_in ls) - floor) (sym e))

pub all_from : {after : List Event → Type 0} (floor : ℕ) (old mid new : Reader) (given : List ℕ) → mid.levels ≡ old.levels
    → FeedsAll (λ events. Leaves (above floor old) events (above floor mid)) after old new given → FeedsAll (λ events. events ≡ []) after old new given
all_from floor old mid new given e f =
    record {
      feeds = record {
        limits = f.feeds.limits;
        on = f.feeds.on;
        stands = f.feeds.stands;
        told =
            λ bytes events s h. f.feeds.told bytes events s (nothing_yet floor old mid events e h);
      };
      live = f.live;
      offset = f.offset;
    }

pub to_from : {after : List Event → Type 0} (floor : ℕ) (old mid new : Reader) (given : List ℕ) (fault : JsonFault) → mid.levels ≡ old.levels
    → FeedsTo (λ events. Leaves (above floor old) events (above floor mid)) after old new given fault
    → FeedsTo (λ events. events ≡ []) after old new given fault
to_from floor old mid new given fault e f =
    record {
      feeds = record {
        limits = f.feeds.limits;
        on = f.feeds.on;
        stands = f.feeds.stands;
        told =
            λ bytes events s h. f.feeds.told bytes events s (nothing_yet floor old mid events e h);
      };
      refused = f.refused;
    }

pub all_more : (floor : ℕ) (first next last : Reader) (given : List ℕ) → FeedsWithin floor next last given
    → FeedsAll (λ events. Leaves (above floor first) events (above floor next)) (λ events. Leaves (above floor first) events (above floor last)) next last given
all_more floor first next last given f =
    all_as (above floor next) (above floor last) next last given
    (λ events inner h l. leaves_more (above floor first) (above floor next) (above floor last) events inner h l) f

pub to_more : (floor : ℕ) (first next last : Reader) (given : List ℕ) (fault : JsonFault) → FeedsWithinTo floor next last given fault
    → FeedsTo (λ events. Leaves (above floor first) events (above floor next))
    (λ events. Leaves (above floor first) events (above floor last)) next last given fault
to_more floor first next last given fault f =
    to_as (above floor next) (above floor last) next last given fault
    (λ events inner h l. leaves_more (above floor first) (above floor next) (above floor last) events inner h l) f

pub ignored_by : (before after : List Event → Type 0) (m n : ℕ) (old new : Reader) (piece : List ℕ) (result : Result ℕ JsonFault)
    → ((events inner : List Event) → before events → Leaves m inner n → after (events ++ inner))
    → MatchResult result (OfPrefix (FeedsAll (λ events. events ≡ []) (λ events. Leaves m events n) old new) piece)
    (FeedsTo (λ events. events ≡ []) (λ events. Leaves m events n) old new piece)
    → MatchResult result (OfPrefix (FeedsAll before after old new) piece) (FeedsTo before after old new piece)
ignored_by before after m n old new piece (Ok k) p f = record { within = f.within; holds = all_as m n old new (take k piece) p f.holds }
ignored_by before after m n old new piece (Err fault) p f = to_as m n old new piece fault p f

-- the innermost level has closed
pub innermost_closed : (floor : ℕ) (old new : Reader) (given : List ℕ) → length (levels_in old.levels) ≡ floor + 1 → length (levels_in new.levels) ≡ floor
    → FeedsWithin floor old new given
    → FeedsAll (λ events. events ≡ []) (λ events. Leaves 1 events 0) old new given
innermost_closed floor old new given e c f =
    let m : above floor old ≡ 1 = omega (arith, e) in
    let n : above floor new ≡ 0 = omega (arith, c) in
    all_by {before = λ events. events ≡ []} {within = λ events. Leaves (above floor old) events (above floor new)} {after = λ events. Leaves 1 events 0} old new
    given
    (λ events inner h l.
    let k : Leaves 1 inner (above floor new) = subst (λ x. Leaves x inner (above floor new)) m l in
    let j : Leaves 1 inner 0 = subst (λ x. Leaves 1 inner x) n k in
    rw h j) f

-- Tokens within levels that are open: of the events that one completes, the last alone may close a level.
use Rattle.gj_json.proofs.Common.{Array, Bool, Close, Constant, Ending, Event, Exact, FeedsAll, FeedsAny, FeedsWithin, Go, IsNumber, IsOpenFor, IsString}
use Rattle.gj_json.proofs.Common.{Lands, Leaves, Level, List, Mode, NameDue, None, Null, Object, OfPrefix, Option, Passed, Reader, Skips, Some, ValueDone}
use Rattle.gj_json.proofs.Common.{What, above, after_move, ap, arith, awaits, closing_of, drop, event_at, false, get_or, get_or-drop, inner_of, is_white, length}
use Rattle.gj_json.proofs.Common.{letters_of, opened, opening_of, outer_of, refl, subst, suc, sym, take-add, take_more, true, value_of, what_of, zero, ℕ, []}
use Rattle.gj_json.proofs.Common.{◌++◌, ◌+◌, ◌-◌, ◌<◌, ◌∙◌, ◌∷◌, ◌≡◌, ◌≤◌}
use Rattle.std.proofs.Common.{take}
use Rattle.std.proofs.lemmas.List.{drop-drop, length-append, length-drop}
use Rattle.gj_json.specs.Bytes.{quote as quote_byte, comma as comma_byte}
use Rattle.gj_json.specs.declared.class.Class.TheVariants.{Comma as comma_class}
use Rattle.gj_json.specs.declared.mode.StringState.TheVariants.{Plain as plain}
use Rattle.gj_json.specs.Internal.ByteClasses.{class_of}
use Rattle.gj_json.specs.Internal.FedReader.{FeedsToken}
use Rattle.gj_json.specs.Internal.OpenLevels.{levels_in}
use Rattle.gj_json.specs.Internal.QuietBytes.{Reads}
use Rattle.gj_json.specs.Internal.WholeTokens.{end_of}
use Rattle.gj_json.proofs.Grammar.ClassOfBytes.{class_is}
use Rattle.gj_json.proofs.Readers.CallsInTurn.{feeds_nothing, front_skipped, of_prefix, piece_all, prefix_as, rest_all, then_all}
use Rattle.gj_json.proofs.Events.IgnoredEvents.{outer_length, all_by, all_more}
use Rattle.gj_json.proofs.Machine.ValuePaths.{at}
use Rattle.gj_json.proofs.Pieces.PieceRests.{more_within, rest_of}
use Rattle.gj_json.proofs.Pieces.QuietModes.{class_white, reads_more}
use Rattle.gj_json.proofs.Pieces.TakenTokens.{Closes, closes_empty, constant_taken, end_goes, end_closes, number_then, number_closed}

-- a token completes these events, whoever hears them
abbrev pub Completes : List Event → Reader → Reader → List ℕ → Type 0
Completes es old new given = FeedsAll (λ events. events ≡ []) (λ events. events ≡ es) old new given

pub from_none : (es events : List Event) → events ≡ [] → events ++ es ≡ es
from_none es events e = rw e refl

pub heard_as : {before after : List Event → Type 0} (old new : Reader) (given : List ℕ) (es : List Event) → Completes es old new given
    → ((events : List Event) → before events → after (events ++ es)) → FeedsAll before after old new given
heard_as {before} {after} old new given es f heard =
    all_by {before = before} {within = λ events. events ≡ es} {after = after} old new given (λ events inner h e. rw e (heard events h)) f

any_by : (old new : Reader) (given : List ℕ) (es : List Event) → Completes es old new given
    → ((floor : ℕ) → floor < length (levels_in old.levels) → Leaves (above floor old) es (above floor new))
    → length (levels_in old.levels) ≤ length (levels_in new.levels) + 1
    → (new.mode ≡ NameDue → length (levels_in old.levels) ≤ length (levels_in new.levels)) → FeedsAny old new given
any_by old new given es f leaves one named = record {
  limits = f.feeds.limits;
  live = f.live;
  offset = f.offset;
  within = λ floor w. heard_as {before = λ events. events ≡ []} {after = λ events. Leaves (above floor old) events (above floor new)} old new given es f
      (λ events e. let P : List Event → Type 0 = λ xs. Leaves (above floor old) xs (above floor new) in
      subst P (sym (from_none es events e)) (leaves floor w));
  one = one;
  named = named;
}

-- ---- the levels that events leave

leaves_open : (m n : ℕ) (es : List Event) → 0 < m → n ≡ m → ((k : ℕ) → Leaves (suc k) es (suc k)) → Leaves m es n
leaves_open zero n es w e h = absurd (omega arith)
leaves_open (suc k) n es w e h = rw e (h k)

leaves_one_more : (m n : ℕ) (level : Level) (place : ℕ) → 0 < m → n ≡ m + 1 → Leaves m (event_at place (opening_of level) ∷ []) n
leaves_one_more zero n level place w e = absurd (omega arith)
leaves_one_more (suc k) n Array place w e = rw e refl
leaves_one_more (suc k) n Object place w e = rw e refl

leaves_one_less : (m n : ℕ) (es : List Event) → 0 < m → n + 1 ≡ m → ((k : ℕ) → Leaves (suc k) es k) → Leaves m es n
leaves_one_less zero n es w e h = absurd (omega arith)
leaves_one_less (suc k) n es w e h = let f : n ≡ k = omega arith in rw f (h k)

pub close_leaves : (level : Level) (place k : ℕ) → Leaves (suc k) (event_at place (closing_of level) ∷ []) k
close_leaves Array place k = omega arith
close_leaves Object place k = omega arith

constant_leaves : (which : Constant) (place k : ℕ) → Leaves (suc k) (event_at place (what_of which) ∷ []) (suc k)
constant_leaves Null place k = refl
constant_leaves other place k = refl

-- ---- one token

pub any_level : (old new : Reader) (given : List ℕ) (es : List Event) → Completes es old new given → ((k : ℕ) → Leaves (suc k) es (suc k))
    → levels_in new.levels ≡ levels_in old.levels → FeedsAny old new given
any_level old new given es f h same =
    let l : length (levels_in new.levels) ≡ length (levels_in old.levels) = ap length same in
    any_by old new given es f
    (λ floor w. leaves_open (above floor old) (above floor new) es (omega (arith, w)) (omega (arith, l)) h) (omega (arith, l)) (λ m. omega (arith, l))

pub any_opened : (old new : Reader) (given : List ℕ) (level : Level) (place : ℕ) → Completes (event_at place (opening_of level) ∷ []) old new given
    → levels_in new.levels ≡ level ∷ levels_in old.levels → FeedsAny old new given
any_opened old new given level place f more =
    let l : length (levels_in new.levels) ≡ length (levels_in old.levels) + 1 = ap length more ∙ omega arith in
    any_by old new given (event_at place (opening_of level) ∷ []) f
    (λ floor w. leaves_one_more (above floor old) (above floor new) level place (omega (arith, w)) (omega (arith, l, w))) (omega (arith, l))
    (λ m. omega (arith, l))

pub any_closed : (old new : Reader) (given : List ℕ) (es : List Event) → Completes es old new given → ((k : ℕ) → Leaves (suc k) es k)
    → levels_in new.levels ≡ outer_of (levels_in old.levels) → new.mode ≡ ValueDone → FeedsAny old new given
any_closed old new given es f h fewer done =
    let l : length (levels_in new.levels) ≡ length (levels_in old.levels) - 1 = ap length fewer ∙ outer_length (levels_in old.levels) in
    any_by old new given es f
    (λ floor w. leaves_one_less (above floor old) (above floor new) es (omega (arith, w)) (omega (arith, l, w)) h) (omega (arith, l))
    (λ m. let x : ValueDone ≡ NameDue = sym done ∙ m in cc)

-- a literal name
pub any_constant : (old new : Reader) (piece : List ℕ) (n : ℕ) (which : Constant) → old.fault ≡ None → awaits old.mode ≡ true
    → old.offset + length piece ≤ old.limits.bytes → n ≤ length piece → Passed n ValueDone old new → take n piece ≡ letters_of which
    → FeedsAny old new (take n piece)
any_constant old new piece n which live due room w p e =
    let es : List Event = event_at old.offset (what_of which) ∷ [] in
    any_level old new (take n piece) es
    (constant_taken {before = λ events. events ≡ []} {after = λ events. events ≡ es} old new piece n live due room w p which e (from_none es))
    (constant_leaves which old.offset) (ap levels_in p.levels)

pub none_any : (reader : Reader) (piece : List ℕ) → reader.fault ≡ None → FeedsAny reader reader (take 0 piece)
none_any reader piece live = any_level reader reader [] [] (feeds_nothing {heard = λ events. events ≡ []} reader live) (λ k. refl) refl

pub skips_any : {old new : Reader} {piece : List ℕ} {n : ℕ} → IsOpenFor old piece → OfPrefix (Skips old new) piece n → OfPrefix (FeedsAny old new) piece n
skips_any {old} {new} takes s =
    prefix_as (front_skipped {heard = λ events. events ≡ []} takes s) (λ given f. any_level old new given [] f (λ k. refl) (ap levels_in s.holds.levels))

-- ---- the byte after a value

module _ (old new : Reader) (piece : List ℕ) (some : 0 < length piece) (live : old.fault ≡ None) (done : old.mode ≡ ValueDone)
    (room : old.offset + length piece ≤ old.limits.bytes) where
  pub any_goes : (next : Mode) (ending : Ending) → after_move (inner_of (levels_in old.levels)) (class_of (get_or piece 0 0)) ≡ Go next ending
      → Passed 1 next old new → FeedsAny old new (take 1 piece)
  any_goes next ending made p =
      any_level old new (take 1 piece) [] (end_goes {heard = λ events. events ≡ []} old new piece next ending some live done room made p) (λ k. refl)
      (ap levels_in p.levels)

pub any_closes : (old new : Reader) (piece : List ℕ) (level : Level) → 0 < length piece → old.fault ≡ None → old.offset + length piece ≤ old.limits.bytes
    → Closes old.mode (inner_of (levels_in old.levels)) (get_or piece 0 0) level → Lands 1 ValueDone (outer_of (levels_in old.levels)) old new
    → FeedsAny old new (take 1 piece)
any_closes old new piece level some live room closes p =
    let es : List Event = event_at (old.offset + 1 - 1) (closing_of level) ∷ [] in
    any_closed old new (take 1 piece) es
    (end_closes {before = λ events. events ≡ []} {after = λ events. events ≡ es} old new piece level some live room closes p (from_none es))
    (close_leaves level (old.offset + 1 - 1)) p.levels_are p.mode_is

-- ---- one token after another

pub both_within : (floor : ℕ) (first next last : Reader) {piece : List ℕ} {at n : ℕ} → OfPrefix (FeedsWithin floor first next) piece at
    → OfPrefix (FeedsWithin floor next last) (take (length piece - at) (drop at piece)) n → OfPrefix (FeedsWithin floor first last) piece (at + n)
both_within floor first next last f g = then_all f (prefix_as g (λ given h. all_more floor first next last given h))

pub any_then : (first next last : Reader) (piece : List ℕ) (at n : ℕ) → length (levels_in first.levels) ≤ length (levels_in next.levels)
    → FeedsAny first next (take at piece) → FeedsAny next last (take n (take (length piece - at) (drop at piece))) → FeedsAny first last (take (at + n) piece)
any_then first next last piece at n w f g =
    let rest : List ℕ = take n (take (length piece - at) (drop at piece)) in
    let e : take (at + n) piece ≡ take at piece ++ rest = take-add at n piece ∙ ap (λ xs. take at piece ++ take n xs) (sym (rest_of piece at)) in
    record {
      limits = g.limits ∙ f.limits;
      live = g.live;
      offset = omega (arith, f.offset, g.offset, ap length e, length-append (take at piece) rest);
      within = λ floor v. piece_all first next last piece at n (f.within floor v)
          (rest_all next last piece at n (all_more floor first next last rest (g.within floor (omega (arith, v, w)))));
      one = omega (arith, w, g.one);
      named = λ m. omega (arith, w, g.named m);
    }

pub then_any : {first next last : Reader} {piece : List ℕ} {at n : ℕ} → OfPrefix (FeedsAny first next) piece at
    → OfPrefix (FeedsAny next last) (take (length piece - at) (drop at piece)) n → length (levels_in first.levels) ≤ length (levels_in next.levels)
    → OfPrefix (FeedsAny first last) piece (at + n)
then_any {first} {next} {last} {piece} {at} {n} f g w =
    of_prefix (more_within piece at n f.within g.within) (any_then first next last piece at n w f.holds g.holds)

-- so many bytes that were passed over, and after them what completes nothing
module _ (old mid new : Reader) (piece : List ℕ) (at n : ℕ) (next : Mode) (takes : IsOpenFor old piece) (p : Passed at next old mid)
    (s : OfPrefix (Skips mid new) (take (length piece - at) (drop at piece)) n) where
  rest_takes : at ≤ length piece → IsOpenFor mid (take (length piece - at) (drop at piece))
  rest_takes some =
      (p.fault ∙ takes.0, omega (arith, some, takes.1, p.offset, ap (λ l. l.bytes) p.limits, ap length (rest_of piece at), length-drop at piece))

  pub then_skipped : {before after : List Event → Type 0} → OfPrefix (FeedsAll before after old mid) piece at
      → OfPrefix (FeedsAll before after old new) piece (at + n)
  then_skipped f = then_all f (front_skipped (rest_takes f.within) s)

  pub any_skipped : OfPrefix (FeedsAny old mid) piece at → OfPrefix (FeedsAny old new) piece (at + n)
  any_skipped f = then_any f (skips_any (rest_takes f.within) s) (omega (arith, ap (λ ls. length (levels_in ls)) p.levels))

pub token_of : (hears : Bool) {before after : List Event → Type 0} (old new : Reader) (given : List ℕ)
    → (hears ≡ true → FeedsAll before after old new given) → (hears ≡ false → FeedsAny old new given) → FeedsToken hears before after old new given
token_of true old new given f g = f refl
token_of false old new given f g = g refl

pub token_none : (hears : Bool) (heard : List Event → Type 0) (reader : Reader) → reader.fault ≡ None → FeedsToken hears heard heard reader reader []
token_none hears heard reader live =
    token_of hears {before = heard} {after = heard} reader reader [] (λ h. feeds_nothing {heard = heard} reader live) (λ h. none_any reader [] live)

pub token_both : (hears : Bool) (before after : List Event → Type 0) (old new : Reader) {piece : List ℕ} {n : ℕ}
    → OfPrefix (FeedsAll before after old new) piece n → OfPrefix (FeedsAny old new) piece n → OfPrefix (FeedsToken hears before after old new) piece n
token_both true before after old new f g = f
token_both false before after old new f g = g

pub token_then : (hears : Bool) (before middle after : List Event → Type 0) (first next last : Reader) {piece : List ℕ} {at n : ℕ}
    → OfPrefix (FeedsToken hears before middle first next) piece at
    → OfPrefix (FeedsToken hears middle after next last) (take (length piece - at) (drop at piece)) n
    → length (levels_in first.levels) ≤ length (levels_in next.levels) → OfPrefix (FeedsToken hears before after first last) piece (at + n)
token_then true before middle after first next last f g w = then_all f g
token_then false before middle after first next last f g w = then_any f g w

-- an opening bracket, the closing one, and the byte after it
module _ (hears : Bool) (before middle after : List Event → Type 0) (old mid new : Reader) (piece : List ℕ) (level : Level) (at n : ℕ) (one : at ≡ 1)
    (same : n ≡ 1) (some : 1 < length piece) (ends : get_or piece 1 0 ≡ end_of level) (live : old.fault ≡ None)
    (room : old.offset + length piece ≤ old.limits.bytes) (opens : Lands 1 (opened level) (level ∷ levels_in old.levels) old mid)
    (closes : Lands 1 ValueDone (outer_of (levels_in mid.levels)) mid new)
    (heard : (events : List Event) → middle events → after (events ++ event_at (mid.offset + 1 - 1) (closing_of level) ∷ [])) where
  abbrev rest : List ℕ
  rest = take (length piece - at) (drop at piece)

  long : length rest ≡ length piece - at
  long = ap length (rest_of piece at) ∙ length-drop at piece

  closing : Closes mid.mode (inner_of (levels_in mid.levels)) (get_or rest 0 0) level
  closing =
      let z : at + 0 ≡ 1 = omega (arith, one) in
      closes_empty mid.mode (inner_of (levels_in mid.levels)) (get_or rest 0 0) level opens.mode_is
      (ap (λ xs. get_or xs 0 0) (rest_of piece at) ∙ get_or-drop at piece 0 0 ∙ ap (λ i. get_or piece i 0) z ∙ ends)

  left : mid.offset + length rest ≤ mid.limits.bytes
  left = omega (arith, room, some, one, long, opens.offset, ap (λ l. l.bytes) opens.limits)

  empty_token : OfPrefix (FeedsToken hears before middle old mid) piece at → OfPrefix (FeedsToken hears before after old new) piece (at + n)
  empty_token f =
      let l : length (levels_in mid.levels) ≡ length (levels_in old.levels) + 1 = ap length opens.levels_are ∙ omega arith in
      let w : 0 < length rest = omega (arith, some, one, long) in
      rw same
      (token_then hears before middle after old mid new f
      (of_prefix {Holds = FeedsToken hears middle after mid new} w (token_of hears {before = middle} {after = after} mid new (take 1 rest)
      (λ h. end_closes {before = middle} {after = after} mid new rest level w (opens.fault ∙ live) left closing closes heard)
      (λ h. any_closes mid new rest level w (opens.fault ∙ live) left closing closes))) (omega (arith, l)))

  pub container_token : (finally : List Event → Type 0) (last : Reader) (m : ℕ) → OfPrefix (FeedsToken hears before middle old mid) piece at
      → OfPrefix (FeedsToken hears after finally new last) (take (length piece - (at + n)) (drop (at + n) piece)) m
      → OfPrefix (FeedsToken hears before finally old last) piece (at + n + m)
  container_token finally last m f g =
      token_then hears before after finally old new last (empty_token f) g
      (omega (arith, ap length (closes.levels_are ∙ ap outer_of opens.levels_are)))

-- ---- a number, and the byte after it

module _ (hears : Bool) (before after : List Event → Type 0) (old new : Reader) (piece : List ℕ) (n : ℕ) (value : Option Exact) (live : old.fault ≡ None)
    (due : awaits old.mode ≡ true) (room : old.offset + length piece ≤ old.limits.bytes) (w : n < length piece) (digits : IsNumber (take n piece))
    (has : hears ≡ true → value_of (take n piece) ≡ value) where
  pub number_token : (next : Mode) (ending : Ending) → after_move (inner_of (levels_in old.levels)) (class_of (get_or piece n 0)) ≡ Go next ending
      → Passed (n + 1) next old new → ((events : List Event) → before events → after (events ++ event_at old.offset (What.Number value) ∷ []))
      → FeedsToken hears before after old new (take (n + 1) piece)
  number_token next ending made p heard =
      let es : List Event = event_at old.offset (What.Number (value_of (take n piece))) ∷ [] in
      token_of hears {before = before} {after = after} old new (take (n + 1) piece)
      (λ h. number_then old new piece n value live due room w digits (has h) {before = before} {after = after} next ending made p heard)
      (λ h. any_level old new (take (n + 1) piece) es
      (number_then old new piece n (value_of (take n piece)) live due room w digits refl {before = λ events. events ≡ []} {after = λ events. events ≡ es} next
      ending made p (from_none es)) (λ k. refl) (ap levels_in p.levels))

  pub ended_token : (level : Level) → after_move (inner_of (levels_in old.levels)) (class_of (get_or piece n 0)) ≡ Close level
      → Lands (n + 1) ValueDone (outer_of (levels_in old.levels)) old new
      → ((events : List Event) → before events
      → after (events ++ event_at old.offset (What.Number value) ∷ event_at (old.offset + (n + 1) - 1) (closing_of level) ∷ []))
      → FeedsToken hears before after old new (take (n + 1) piece)
  ended_token level made p heard =
      let last : ℕ = old.offset + (n + 1) - 1 in
      let es : List Event = event_at old.offset (What.Number (value_of (take n piece))) ∷ event_at last (closing_of level) ∷ [] in
      token_of hears {before = before} {after = after} old new (take (n + 1) piece)
      (λ h. number_closed old new piece n value live due room w digits (has h) {before = before} {after = after} level made p heard)
      (λ h. any_closed old new (take (n + 1) piece) es
      (number_closed old new piece n (value_of (take n piece)) live due room w digits refl {before = λ events. events ≡ []} {after = λ events. events ≡ es}
      level made p (from_none es)) (λ k. close_leaves level last k) p.levels_are p.mode_is)

-- ---- a comma

pub comma_ends : (inner : Option Level) (b : ℕ) (level : Level) (next : Mode) → inner ≡ Some level → b ≡ comma_byte
    → after_move (Some level) comma_class ≡ Go next Ending.Item → after_move inner (class_of b) ≡ Go next Ending.Item
comma_ends inner b level next i w e = rw (i, w, class_is comma_class comma_byte refl (λ e. cc)) e

pub white_goes : (inner : Option Level) (b : ℕ) → is_white b ≡ true → after_move inner (class_of b) ≡ Go ValueDone Ending.Nothing
white_goes inner b e = rw (class_white b e) refl

pub first_byte : (piece : List ℕ) (b : ℕ) → 0 < length piece → get_or piece 0 0 ≡ b → take 1 piece ≡ b ∷ []
first_byte [] b w e = absurd (omega arith)
first_byte (x ∷ xs) b w e = ap (λ y. y ∷ []) e

-- ---- a token at the start of a piece

pub quoted_is : (piece : List ℕ) (r : ℕ) → 0 < length piece → get_or piece 0 0 ≡ quote_byte → (cs : List ℕ)
    × Reads plain (take r (take (length piece - 1) (drop 1 piece))) cs plain → 1 + r < length piece → get_or piece (1 + r) 0 ≡ quote_byte
    → IsString (take (1 + r + 1) piece)
quoted_is piece r some first h w last =
    let run : List ℕ = take r (drop 1 piece) in
    let e : take r (take (length piece - 1) (drop 1 piece)) ≡ run = ap (λ xs. take r xs) (rest_of piece 1) in
    let P : List ℕ → Type 0 = λ xs. Reads plain xs h.0 plain in
    let one : take (1 + r) piece ≡ quote_byte ∷ run = take-add 1 r piece ∙ ap (λ xs. xs ++ run) (first_byte piece quote_byte some first) in
    let all : take (1 + r + 1) piece ≡ quote_byte ∷ (run ++ quote_byte ∷ []) =
    take_more piece (1 + r) 0 w ∙ ap (λ xs. xs ++ get_or piece (1 + r) 0 ∷ []) one ∙ ap (λ b. (quote_byte ∷ run) ++ b ∷ []) last in
    record { run = run; characters = h.0; is = all; reads = subst P e h.1 }

-- the same of plain characters, and of others after them
pub more_quoted : (piece : List ℕ) (r n : ℕ) → 0 < length piece → get_or piece 0 0 ≡ quote_byte → (cs : List ℕ)
    × Reads plain (take r (take (length piece - 1) (drop 1 piece))) cs plain
    → (cs : List ℕ) × Reads plain (take n (take (length piece - (1 + r)) (drop (1 + r) piece))) cs plain → 1 + r + n < length piece
    → get_or piece (1 + r + n) 0 ≡ quote_byte → IsString (take (1 + r + n + 1) piece)
more_quoted piece r n some first h g w last =
    let rest : List ℕ = take (length piece - 1) (drop 1 piece) in
    let same : take (length piece - (1 + r)) (drop (1 + r) piece) ≡ take (length rest - r) (drop r rest) =
    rest_of piece (1 + r) ∙ sym (drop-drop r 1 piece) ∙ sym (rest_of rest r ∙ ap (λ xs. drop r xs) (rest_of piece 1)) in
    let P : List ℕ → Type 0 = λ xs. Reads plain (take n xs) g.0 plain in
    let more = reads_more plain plain plain rest h.0 g.0 r n h.1 (subst P same g.1) in
    let e : 1 + (r + n) ≡ 1 + r + n = omega arith in
    let Q : ℕ → Type 0 = λ k. IsString (take (k + 1) piece) in
    subst Q e (quoted_is piece (r + n) some first (h.0 ++ g.0, more) (omega (arith, w)) (ap (λ k. get_or piece k 0) e ∙ last))

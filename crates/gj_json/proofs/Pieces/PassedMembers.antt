-- Members of objects in which no event matters: a name and its colon, and a value with the byte after it.
use Rattle.gj_json.proofs.Common.{AllByRecursion, Close, Ending, Event, FeedsAll, FeedsAny, Go, IsMode, IsString, IsWhite, Lands, Level, List, Mode}
use Rattle.gj_json.proofs.Common.{NameDue, None, Object, Option, Passed, Reader, Some, ValueDone, ValueDue, What, after_move, ap, arith, awaits}
use Rattle.gj_json.proofs.Common.{close_brace, cut, drop, event_at, false, get_or, get_or-drop, inl, inner_of, inr, length, names, outer_of, refl}
use Rattle.gj_json.proofs.Common.{space, subst, sym, true, ℕ, [], ◌+◌, ◌-◌, ◌<◌, ◌^◌, ◌∙◌, ◌∷◌, ◌≡◌, ◌≤◌, ◌⊎◌}
use Rattle.std.proofs.Common.{take}
use Rattle.std.proofs.lemmas.List.{length-drop}
use Rattle.gj_json.specs.Bytes.{colon as colon_byte}
use Rattle.gj_json.specs.declared.class.Class.TheVariants.{CloseObject as close_class}
use Rattle.gj_json.specs.declared.name_lengths.NameLengths.{NameLengths}
use Rattle.gj_json.specs.Names.{known_of, word_of}
use Rattle.gj_json.specs.Internal.ByteClasses.{class_of}
use Rattle.gj_json.specs.Internal.OpenLevels.{levels_in}
use Rattle.gj_json.specs.Internal.QuietBytes.{Leads}
use Rattle.gj_json.specs.Internal.Scalars.{IsScalar, text, digits, literal}
use Rattle.gj_json.proofs.Grammar.ClassOfBytes.{class_is}
use Rattle.gj_json.proofs.Grammar.SpelledTokens.{first_colon_cut}
use Rattle.gj_json.proofs.Pieces.PieceRests.{rest_of}
use Rattle.gj_json.proofs.Pieces.QuietModes.{quiet_white}
use Rattle.gj_json.proofs.Pieces.SkippedRuns.{leads_skips}
use Rattle.gj_json.proofs.Pieces.TakenFlats.{mid_of, to_mid, from_mid}
use Rattle.gj_json.proofs.Pieces.TakenTokens.{closes_value, named_taken, text_taken}
use Rattle.gj_json.proofs.Readers.CallsInTurn.{of_prefix}
use Rattle.gj_json.proofs.Pieces.TokensInLevels.{from_none, first_byte, any_level, any_constant, any_goes, any_closes, any_then, any_skipped, number_token}
use Rattle.gj_json.proofs.Pieces.TokensInLevels.{ended_token}

-- ---- what is kept of the lengths of names says nothing of what was given

-- the reader, where other lengths are kept
abbrev pub with_names : (old : Reader) → NameLengths → IsMode old.mode → old.offset ≤ old.limits.bytes → old.limits.bytes ≤ 2 ^ 60
    → length (levels_in old.levels) ≤ old.limits.depth → Reader
with_names old names sound within small nested = record {
  limits = old.limits;
  offset = old.offset;
  start = old.start;
  levels = old.levels;
  literal = old.literal;
  content = old.content;
  mode = old.mode;
  fault = old.fault;
  names = names;
  positions = old.positions;
  alone = old.alone;
  sound = sound;
  within = within;
  small = small;
  nested = nested;
}

module _ (old new : Reader) (given : List ℕ) {names : NameLengths} {sound : IsMode old.mode} {within : old.offset ≤ old.limits.bytes} {small : old.limits.bytes ≤ 2 ^ 60}
    {nested : length (levels_in old.levels) ≤ old.limits.depth} where
  pub names_all : {before after : List Event → Type 0} → FeedsAll before after (with_names old names sound within small nested) new given
      → FeedsAll before after old new given
  names_all f = record {
    feeds = record { limits = f.feeds.limits; on = f.feeds.on; stands = f.feeds.stands; told = f.feeds.told };
    live = f.live;
    offset = f.offset;
  }

  pub names_any : FeedsAny (with_names old names sound within small nested) new given → FeedsAny old new given
  names_any f =
      record { limits = f.limits; live = f.live; offset = f.offset; within = λ floor w. names_all (f.within floor w); one = f.one; named = f.named }

-- ---- a name, its colon, and one space after it or none

module _ (old new : Reader) (piece : List ℕ) (n : ℕ) (live : old.fault ≡ None) (due : names old.mode ≡ true)
    (room : old.offset + length piece ≤ old.limits.bytes) (w : n < length piece) (q : IsString (take n piece)) (colon : get_or piece n 0 ≡ colon_byte) where
  abbrev rest : List ℕ
  rest = take (length piece - n) (drop n piece)

  rest_length : length rest ≡ length piece - n
  rest_length = ap length (rest_of piece n) ∙ length-drop n piece

  rest_at : (k : ℕ) → get_or rest k 0 ≡ get_or piece (n + k) 0
  rest_at k = ap (λ xs. get_or xs k 0) (rest_of piece n) ∙ get_or-drop n piece k 0

  named_any : (k : ℕ) → 1 ≤ k → n + k ≤ length piece → AllByRecursion IsWhite (cut rest 1 k) → Passed (n + k) ValueDue old new
      → FeedsAny old new (take (n + k) piece)
  named_any k some few white p =
      let z : n + 0 ≡ n = omega arith in
      let first : get_or rest 0 0 ≡ colon_byte = rest_at 0 ∙ ap (λ i. get_or piece i 0) z ∙ colon in
      let l = rest_length in
      let leads = first_colon_cut rest k (omega arith) first some (omega arith) white in
      let es : List Event = event_at old.offset (What.Name (known_of q.characters)) ∷ [] in
      any_level old new (take (n + k) piece) es
      (named_taken {before = λ events. events ≡ []} {after = λ events. events ≡ es} old new piece n k live due room (omega arith) q (omega arith) leads p
      (from_none es)) (λ i. refl) (ap levels_in p.levels)

  pub dense_name : Passed (n + 1) ValueDue old new → FeedsAny old new (take (n + 1) piece)
  dense_name p = named_any 1 (omega arith) (omega arith) tt p

  pub spaced_name : n + 2 ≤ length piece → get_or piece (n + 1) 0 ≡ space → Passed (n + 2) ValueDue old new → FeedsAny old new (take (n + 2) piece)
  spaced_name v here p =
      let l = rest_length in
      let d : get_or (drop 1 rest) 0 0 ≡ space = get_or-drop 1 rest 0 0 ∙ rest_at 1 ∙ here in
      let one : take 1 (drop 1 rest) ≡ space ∷ [] = first_byte (drop 1 rest) space (omega (arith, length-drop 1 rest)) d in
      let P : List ℕ → Type 0 = λ xs. AllByRecursion IsWhite xs in
      named_any 2 (omega arith) v (subst P (sym one) (inl refl, tt)) p

  pub name_to : (at : ℕ) → (at ≡ n + 1) ⊎ ((at ≡ n + 2) × (get_or piece (n + 1) 0 ≡ space)) → at ≤ length piece → Passed at ValueDue old new
      → FeedsAny old new (take at piece)
  name_to at shape v p =
      let P : ℕ → Type 0 = λ k. k ≤ length piece → Passed k ValueDue old new → FeedsAny old new (take k piece) in
      elim shape [
        | inl e ↦ subst P (sym e) (λ v p. dense_name p) v p
        | inr e ↦ subst P (sym e.0) (λ v p. spaced_name v e.1 p) v p
      ]

-- ---- a value, and the byte after it

pub brace_closes : (inner : Option Level) (b : ℕ) → inner ≡ Some Object → b ≡ close_brace → after_move inner (class_of b) ≡ Close Object
brace_closes inner b i w = rw (i, w, class_is close_class close_brace refl (λ e. cc)) refl

module _ (old new : Reader) (piece : List ℕ) (n : ℕ) (live : old.fault ≡ None) (due : awaits old.mode ≡ true)
    (room : old.offset + length piece ≤ old.limits.bytes) (w : n < length piece) (scalar : IsScalar (take n piece)) where
  done_mode : IsMode ValueDone
  done_mode = omega arith

  mid_room : old.offset + n ≤ old.limits.bytes
  mid_room = omega arith

  abbrev mid : Reader
  mid = mid_of old n ValueDone done_mode mid_room

  abbrev last : List ℕ
  last = take (length piece - n) (drop n piece)

  last_some : 0 < length last
  last_some = omega (arith, ap length (rest_of piece n), length-drop n piece)

  last_room : mid.offset + length last ≤ mid.limits.bytes
  last_room = omega (arith, ap length (rest_of piece n), length-drop n piece)

  last_at : get_or last 0 0 ≡ get_or piece n 0
  last_at =
      let z : n + 0 ≡ n = omega arith in
      ap (λ xs. get_or xs 0 0) (rest_of piece n) ∙ get_or-drop n piece 0 0 ∙ ap (λ i. get_or piece i 0) z

  same_move : after_move (inner_of (levels_in old.levels)) (class_of (get_or last 0 0))
      ≡ after_move (inner_of (levels_in old.levels)) (class_of (get_or piece n 0))
  same_move = ap (λ b. after_move (inner_of (levels_in old.levels)) (class_of b)) last_at

  text_any : IsString (take n piece) → FeedsAny old mid (take n piece)
  text_any q =
      let es : List Event = event_at old.offset (What.Text (word_of q.characters)) ∷ [] in
      any_level old mid (take n piece) es
      (text_taken {before = λ events. events ≡ []} {after = λ events. events ≡ es} old mid piece n live due room (omega arith)
      (to_mid old n ValueDone done_mode mid_room) q (from_none es)) (λ i. refl) refl

  module _ (next : Mode) (ending : Ending) (made : after_move (inner_of (levels_in old.levels)) (class_of (get_or piece n 0)) ≡ Go next ending)
      (p : Passed (n + 1) next old new) where
    goes : FeedsAny old mid (take n piece) → FeedsAny old new (take (n + 1) piece)
    goes f =
        any_then old mid new piece n 1 (omega arith) f
        (any_goes mid new last last_some live refl last_room next ending (same_move ∙ made)
        (from_mid old new n 1 (n + 1) ValueDone next done_mode mid_room refl p))

    pub scalar_goes : FeedsAny old new (take (n + 1) piece)
    scalar_goes = elim scalar [
      | text q ↦ goes (text_any q)
      | digits d ↦
          number_token false (λ events. Unit {0}) (λ events. Unit {0}) old new piece n None live due room w d (λ h. cc) next ending made p (λ events h. tt)
      | literal which e ↦
          goes (any_constant old mid piece n which live due room (omega arith) (to_mid old n ValueDone done_mode mid_room) e)
    ]

  module _ (level : Level) (made : after_move (inner_of (levels_in old.levels)) (class_of (get_or piece n 0)) ≡ Close level)
      (p : Lands (n + 1) ValueDone (outer_of (levels_in old.levels)) old new) where
    from_done : Lands 1 ValueDone (outer_of (levels_in old.levels)) mid new
    from_done = record {
      limits = p.limits;
      fault = p.fault;
      offset = (let o = p.offset in omega arith);
      mode_is = p.mode_is;
      levels_are = p.levels_are;
    }

    closes : FeedsAny old mid (take n piece) → FeedsAny old new (take (n + 1) piece)
    closes f =
        any_then old mid new piece n 1 (omega arith) f (any_closes mid new last level last_some live last_room
        (closes_value mid.mode (inner_of (levels_in mid.levels)) (get_or last 0 0) level refl (same_move ∙ made)) from_done)

    pub scalar_closes : FeedsAny old new (take (n + 1) piece)
    scalar_closes = elim scalar [
      | text q ↦ closes (text_any q)
      | digits d ↦
          ended_token false (λ events. Unit {0}) (λ events. Unit {0}) old new piece n None live due room w d (λ h. cc) level made p (λ events h. tt)
      | literal which e ↦
          closes (any_constant old mid piece n which live due room (omega arith) (to_mid old n ValueDone done_mode mid_room) e)
    ]

-- ---- the space before a name

module _ (old new : Reader) (piece : List ℕ) (n : ℕ) (live : old.fault ≡ None) (room : old.offset + length piece ≤ old.limits.bytes)
    (w : n < length piece) (here : get_or piece n 0 ≡ space) (p : Passed (n + 1) NameDue old new) where
  pub name_mode : IsMode NameDue
  name_mode = omega arith

  pub before_room : old.offset + n ≤ old.limits.bytes
  before_room = omega arith

  -- as it is before the space
  abbrev pub before_space : Reader
  before_space = mid_of old n NameDue name_mode before_room

  pub to_space : Passed n NameDue old before_space
  to_space = to_mid old n NameDue name_mode before_room

  pub space_any : FeedsAny old before_space (take n piece) → FeedsAny old new (take (n + 1) piece)
  space_any f =
      let rest : List ℕ = take (length piece - n) (drop n piece) in
      let long : length rest ≡ length piece - n = ap length (rest_of piece n) ∙ length-drop n piece in
      let z : n + 0 ≡ n = omega arith in
      let first : get_or rest 0 0 ≡ space =
      ap (λ xs. get_or xs 0 0) (rest_of piece n) ∙ get_or-drop n piece 0 0 ∙ ap (λ i. get_or piece i 0) z ∙ here in
      let one : take 1 rest ≡ space ∷ [] = first_byte rest space (omega arith) first in
      let P : List ℕ → Type 0 = λ xs. Leads NameDue xs NameDue in
      let leads : Leads NameDue (take 1 rest) NameDue = subst P (sym one) (NameDue, quiet_white NameDue refl space refl, refl) in
      let q : Passed 1 NameDue before_space new = from_mid old new n 1 (n + 1) NameDue NameDue name_mode before_room refl p in
      (any_skipped old before_space new piece n 1 NameDue (live, room) to_space
      (of_prefix (omega arith) (leads_skips before_space new (take 1 rest) 1 NameDue (rw one refl) q leads refl refl)) (of_prefix (omega arith) f)).holds

-- ---- a name, the value after it, and the byte after that

module _ (old new : Reader) (piece : List ℕ) (n value count : ℕ) (live : old.fault ≡ None) (due : names old.mode ≡ true)
    (room : old.offset + length piece ≤ old.limits.bytes) (q : IsString (take n piece)) (colon : get_or piece n 0 ≡ colon_byte)
    (between : (value ≡ n + 1) ⊎ ((value ≡ n + 2) × (get_or piece (n + 1) 0 ≡ space))) (w : value + count < length piece)
    (scalar : IsScalar (take count (take (length piece - value) (drop value piece)))) where
  due_mode : IsMode ValueDue
  due_mode = omega arith

  value_room : old.offset + value ≤ old.limits.bytes
  value_room = omega arith

  abbrev named : Reader
  named = mid_of old value ValueDue due_mode value_room

  abbrev after : List ℕ
  after = take (length piece - value) (drop value piece)

  after_length : length after ≡ length piece - value
  after_length = ap length (rest_of piece value) ∙ length-drop value piece

  after_at : get_or after count 0 ≡ get_or piece (value + count) 0
  after_at = ap (λ xs. get_or xs count 0) (rest_of piece value) ∙ get_or-drop value piece count 0

  name_first : n < length piece
  name_first = elim between [ inl e ↦ omega arith | inr e ↦ (let f = e.0 in omega arith) ]

  name_fed : FeedsAny old named (take value piece)
  name_fed =
      name_to old named piece n live due room name_first q colon value between (omega arith) (to_mid old value ValueDue due_mode value_room)

  both : FeedsAny named new (take (count + 1) after) → FeedsAny old new (take (value + count + 1) piece)
  both f =
      let e : value + (count + 1) ≡ value + count + 1 = omega arith in
      let P : ℕ → Type 0 = λ k. FeedsAny old new (take k piece) in
      subst P e (any_then old named new piece value (count + 1) (omega arith) name_fed f)

  pub named_goes : (next : Mode) (ending : Ending)
      → after_move (inner_of (levels_in old.levels)) (class_of (get_or piece (value + count) 0)) ≡ Go next ending
      → Passed (value + count + 1) next old new → FeedsAny old new (take (value + count + 1) piece)
  named_goes next ending made p =
      let l = after_length in
      both (scalar_goes named new after count live refl (omega arith) (omega arith) scalar next ending
      (ap (λ b. after_move (inner_of (levels_in old.levels)) (class_of b)) after_at ∙ made)
      (from_mid old new value (count + 1) (value + count + 1) ValueDue next due_mode value_room (omega arith) p))

  pub named_closes : (level : Level)
      → after_move (inner_of (levels_in old.levels)) (class_of (get_or piece (value + count) 0)) ≡ Close level
      → Lands (value + count + 1) ValueDone (outer_of (levels_in old.levels)) old new → FeedsAny old new (take (value + count + 1) piece)
  named_closes level made p =
      let l = after_length in
      both (scalar_closes named new after count live refl (omega arith) (omega arith) scalar level
      (ap (λ b. after_move (inner_of (levels_in old.levels)) (class_of b)) after_at ∙ made) (record {
        limits = p.limits;
        fault = p.fault;
        offset = (let o = p.offset in omega arith);
        mode_is = p.mode_is;
        levels_are = p.levels_are;
      }))

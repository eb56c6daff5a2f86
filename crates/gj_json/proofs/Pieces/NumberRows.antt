-- The numbers of an array, one after another: each with the comma or the bracket after it.
use Rattle.gj_json.proofs.Common.{Array, Close, CloseArray, Comma, Event, Exact, FeedsAll, Go, Item, Lands, List, OfPrefix, Passed, Reader, Some}
use Rattle.gj_json.proofs.Common.{StartsWithNumber, ValueDone, ValueDue, What, after_move, ap, arith, awaits, close_bracket, closing_of, drop}
use Rattle.gj_json.proofs.Common.{event_at, get_or, get_or-drop, inner_of, length, length-take-le, outer_of, refl, true, ℕ, [], ◌++◌, ◌+◌, ◌-◌, ◌<◌}
use Rattle.gj_json.proofs.Common.{◌∙◌, ◌∷◌, ◌≡◌, ◌≤◌}
use Rattle.std.proofs.Common.{take}
use Rattle.std.proofs.lemmas.List.{length-drop}
use Rattle.gj_json.specs.Bytes.{comma as comma_byte}
use Rattle.gj_json.specs.Internal.ByteClasses.{class_of}
use Rattle.gj_json.specs.Internal.OpenLevels.{levels_in}
use Rattle.gj_json.proofs.Pieces.PieceRests.{rest_of}
use Rattle.gj_json.proofs.Pieces.TakenTokens.{number_then, number_closed}
use Rattle.gj_json.proofs.Readers.CallsInTurn.{of_prefix, then_all}

comma_class : class_of comma_byte ≡ Comma
unfolding class_of
comma_class = refl

bracket_class : class_of close_bracket ≡ CloseArray
unfolding class_of
bracket_class = refl

module _ (piece : List ℕ) (at n : ℕ) (e : Exact) (within : at ≤ length piece) (found : StartsWithNumber (take (length piece - at) (drop at piece)) e n) where
  abbrev rest : List ℕ
  rest = take (length piece - at) (drop at piece)

  rest_length : length rest ≡ length piece - at
  rest_length = ap length (rest_of piece at) ∙ length-drop at piece

  byte_there : get_or rest n 0 ≡ get_or piece (at + n) 0
  byte_there = ap (λ xs. get_or xs n 0) (rest_of piece at) ∙ get_or-drop at piece n 0

  pub row_within : at + n < length piece
  row_within = let w = found.within in omega (arith, rest_length)

  rest_room : {before middle : List Event → Type 0} (old mid : Reader) → FeedsAll before middle old mid (take at piece)
      → old.offset + length piece ≤ old.limits.bytes → mid.offset + length rest ≤ mid.limits.bytes
  rest_room old mid fed room =
      let b : mid.limits.bytes ≡ old.limits.bytes = ap (λ l. l.bytes) fed.feeds.limits in
      let o = fed.offset in
      omega (arith, rest_length, length-take-le at piece within)

  module _ {before middle after : List Event → Type 0} (old mid new : Reader) (due : awaits mid.mode ≡ true)
      (inner : inner_of (levels_in mid.levels) ≡ Some Array) (fed : OfPrefix (FeedsAll before middle old mid) piece at)
      (room : old.offset + length piece ≤ old.limits.bytes) where
    pub row_goes_on : get_or piece (at + n) 0 ≡ comma_byte → Passed (n + 1) ValueDue mid new
        → ((events : List Event) → middle events → after (events ++ event_at mid.offset (What.Number (Some e)) ∷ []))
        → OfPrefix (FeedsAll before after old new) piece (at + (n + 1))
    row_goes_on comma passed heard =
        let made : after_move (inner_of (levels_in mid.levels)) (class_of (get_or rest n 0)) ≡ Go ValueDue Item =
        (λ i. after_move (inner i) (class_of (byte_there i))) ∙ ap (λ b. after_move (Some Array) (class_of b)) comma
        ∙ ap (after_move (Some Array)) comma_class in
        then_all fed (of_prefix (let w = found.within in omega arith)
        (number_then mid new rest n (Some e) fed.holds.live due (rest_room old mid fed.holds room) found.within found.number found.value {before = middle}
        {after = after} ValueDue Item made passed heard))

    pub row_ends : get_or piece (at + n) 0 ≡ close_bracket → Lands (n + 1) ValueDone (outer_of (levels_in mid.levels)) mid new
        → ((events : List Event) → middle events
        → after (events ++ event_at mid.offset (What.Number (Some e)) ∷ event_at (mid.offset + (n + 1) - 1) (closing_of Array) ∷ []))
        → OfPrefix (FeedsAll before after old new) piece (at + (n + 1))
    row_ends bracket lands heard =
        let made : after_move (inner_of (levels_in mid.levels)) (class_of (get_or rest n 0)) ≡ Close Array =
        (λ i. after_move (inner i) (class_of (byte_there i))) ∙ ap (λ b. after_move (Some Array) (class_of b)) bracket
        ∙ ap (after_move (Some Array)) bracket_class in
        then_all fed (of_prefix (let w = found.within in omega arith)
        (number_closed mid new rest n (Some e) fed.holds.live due (rest_room old mid fed.holds room) found.within found.number found.value {before = middle}
        {after = after} Array made lands heard))

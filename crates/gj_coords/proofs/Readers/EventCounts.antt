-- How many events a value has: at least as many as it has levels, and more than its elements together.
use Rattle.gj_coords.proofs.Common.{Elements, Event, Tree, What, ap, arith, array, constant, depth, element, elements_sent, end_of_array}
use Rattle.gj_coords.proofs.Common.{end_of_object, event_at, items, member, object, sent, ◌∙◌}
use Rattle.std.proofs.Common.{◌≡◌, ℕ, ◌+◌, ◌<◌, ◌≤◌, List, [], ◌∷◌, ◌++◌, length, refl, length-append}
use Rattle.gj_json.specs.Tree.{Members}
use Rattle.gj_json.specs.Tree.{elements_depth, members_depth}
use Rattle.gj_coords.specs.Internal.SentEvents.{members_sent}

-- the events of some values
abbrev pub total : List Tree → ℕ
total [] = 0
total (v ∷ more) = length (sent v) + total more

elements_total : (es : Elements) → length (elements_sent es) ≡ total (items es)
elements_total end_of_array = refl
elements_total (element v more) = length-append (sent v) (elements_sent more) ∙ ap (λ n. length (sent v) + n) (elements_total more)

closed_length : (xs : List Event) (last : Event) → length (xs ++ last ∷ []) ≡ length xs + 1
closed_length xs last = length-append xs (last ∷ [])

pub total_below : (place : ℕ) (es : Elements) (close : ℕ) → total (items es) < length (sent (array place es close))
total_below place es close =
    let e = elements_total es in
    let f = closed_length (elements_sent es) (event_at close What.CloseArray) in
    omega arith

some_sent : (v : Tree) → 0 < length (sent v)
some_sent (constant which place) = omega arith
some_sent other = omega arith

pub length_below : (vs : List Tree) → length vs ≤ total vs
length_below [] = omega arith
length_below (v ∷ more) =
    let h = some_sent v in
    let k = length_below more in
    omega arith

mutual
  pub depth_below : (v : Tree) → depth v ≤ length (sent v)
  depth_below (array place es close) =
      let h = elements_below es in
      let f = closed_length (elements_sent es) (event_at close What.CloseArray) in
      omega arith
  depth_below (object place ms close) =
      let h = members_below ms in
      let f = closed_length (members_sent ms) (event_at close What.CloseObject) in
      omega arith
  depth_below _ = omega arith

  elements_below : (es : Elements) → elements_depth es ≤ length (elements_sent es)
  elements_below end_of_array = omega arith
  elements_below (element v more) =
      let h = depth_below v in
      let k = elements_below more in
      let f = length-append (sent v) (elements_sent more) in
      omega arith

  members_below : (ms : Members) → members_depth ms ≤ length (members_sent ms)
  members_below end_of_object = omega arith
  members_below (member place name end v more) =
      let h = depth_below v in
      let k = members_below more in
      let f = length-append (sent v) (members_sent more) in
      omega arith

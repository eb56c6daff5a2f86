-- What an array gives, gathered from what its elements give.
use Rattle.std.specs.Prelude.{ℕ, List, [], ◌∷◌}
use Rattle.gj_json.specs.declared.event.Event.{Event}
use Rattle.gj_json.specs.Tree.{Tree, array}
use Rattle.gj_coords.specs.Items.{items}
use Rattle.gj_coords.specs.Internal.SentEvents.{head}

pub record Gathering (G A B : Type 0) : Type 1 where
  pub opened : ℕ → G
  pub added : G → A → G
  pub closed : G → B
  -- of the first event of a value that is no array
  pub otherwise : Event → B

abbrev pub gathered : {G A B : Type 0} → Gathering G A B → (Tree → A) → G → List Tree → G
gathered r meaning g [] = g
gathered r meaning g (value ∷ more) = gathered r meaning (r.added g (meaning value)) more

abbrev pub given : {G A B : Type 0} → Gathering G A B → (Tree → A) → Tree → B
given r meaning (array place elements close) = r.closed (gathered r meaning (r.opened place) (items elements))
given r meaning value = r.otherwise (head value)

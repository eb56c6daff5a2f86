-- The bytes that spell an array of two or three numbers.
use Rattle.std.specs.Prelude.{◌≡◌, ℕ, List, map}
use Rattle.gj_json.specs.declared.flat.Flat.{Flat}
use Rattle.gj_json.specs.declared.flat.Numbered.{Numbered}
use Rattle.gj_json.specs.Tree.{array, Elements, elements_depth}
use Rattle.gj_json.specs.Grammar.{Spells}
use Rattle.gj_json.specs.Events.{elements_events}
use Rattle.gj_json.specs.Flat.{numbers_of, number_event}

-- these bytes, of which the first stands at `start`, are an array of these numbers
pub record SpellsNumbers (place : ℕ) (numbers : List Numbered) (close start : ℕ) (bytes : List ℕ) : Type 0 where
  pub elements : Elements
  pub spelled : Spells (array place elements close) start bytes
  pub flat : elements_depth elements ≡ 0
  pub told : map (λ x. x.event) (elements_events elements) ≡ map number_event numbers

abbrev pub IsFlat : Flat → ℕ → List ℕ → Type 0
IsFlat flat start bytes = SpellsNumbers flat.place (numbers_of flat) flat.close start bytes

-- The parts of an array of numbers, as they are read.
use Rattle.std.specs.Prelude.{◌≡◌, ℕ, ◌-◌, ◌<◌, Bool, true, false, List, drop, get_or, length, map, Some, take}
use Rattle.gj_number.specs.Grammar.{IsNumber}
use Rattle.gj_number.specs.Value.{value_of}
use Rattle.gj_number.specs.Short.{exact_of}
use Rattle.gj_number.specs.declared.short.Short.{Short}
use Rattle.gj_json.specs.Bytes.{open_bracket}
use Rattle.gj_json.specs.declared.flat.Numbered.{Numbered}
use Rattle.gj_json.specs.declared.mode.Mode.{Mode}
use Rattle.gj_json.specs.declared.mode.Mode.TheVariants.{ValueDue, ArrayOpened}
use Rattle.gj_json.specs.Tree.{number, Elements, elements_depth}
use Rattle.gj_json.specs.Grammar.{Then, White, Spells, SpellsMoreElements}
use Rattle.gj_json.specs.Events.{elements_events}
use Rattle.gj_json.specs.Flat.{number_event}

-- whether an array may begin here, in a text that has begun
abbrev pub awaits : Mode → Bool
awaits ValueDue = true
awaits ArrayOpened = true
awaits _ = false

-- an array begins here, where one is due
pub record IsDueAt (mode : Mode) (piece : List ℕ) : Type 0 where
  pub due : awaits mode ≡ true
  pub some : 0 < length piece
  pub bracket : get_or piece 0 0 ≡ open_bracket

-- the bytes from one index up to another
abbrev pub cut : List ℕ → ℕ → ℕ → List ℕ
cut piece from to = take (to - from) (drop from piece)

-- a number of this value
pub record IsValued (value : Short) (bytes : List ℕ) : Type 0 where
  pub number : IsNumber bytes
  pub valued : Some (exact_of value) ≡ value_of bytes

-- a number with white space around it
pub record IsItem (numbered : Numbered) (start : ℕ) (bytes : List ℕ) : Type 0 where
  pub literal : List ℕ
  pub end : ℕ
  pub spelled : Then White (Then (Spells (number numbered.place literal end)) White) start bytes
  pub valued : Some (exact_of numbered.value) ≡ value_of literal

-- after an element: these numbers more, each after a comma, and the closing bracket
pub record IsMore (numbers : List Numbered) (close start : ℕ) (bytes : List ℕ) : Type 0 where
  pub elements : Elements
  pub spelled : SpellsMoreElements elements close start bytes
  pub flat : elements_depth elements ≡ 0
  pub told : map (λ x. x.event) (elements_events elements) ≡ map number_event numbers

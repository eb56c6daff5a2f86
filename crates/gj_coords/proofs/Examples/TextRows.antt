-- Rows of texts, each with what definitions say of it, by computing. The machine reads a text as the grammar does; ' stands for a quote.
use Rattle.std.proofs.Common.{◌≡◌, ℕ, ◌==◌, if◌then◌else◌, List, map, length, Option, Some, codes}
use Rattle.std.specs.Prelude.{option_map, option_and_then}
use Prim.Native.String.{String}
unfoldable pub use Rattle.gj_number.specs.DecidedNumbers.{is_number, begins_number}
unfoldable pub use Rattle.gj_number.specs.Internal.NumberMachine.{class_of as number_class}
unfoldable pub use Rattle.gj_number.specs.Value.{value_of, held_value, within_limits}
unfoldable pub use Rattle.gj_json.specs.Internal.ByteClasses.{class_of}
unfoldable pub use Rattle.gj_json.specs.Internal.TextMachine.{plain_step}
use Rattle.gj_json.specs.Bytes.{quote}
use Rattle.gj_json.specs.Tree.{Text}
use Rattle.gj_json.specs.Internal.TextMachine.{run, finish}

abbrev pub written : String → List ℕ
written text = map (λ c. if c == 39 then quote else c) (codes text)

abbrev pub read : List ℕ → Option Text
read bytes = option_and_then (λ s. finish s (length bytes)) (run bytes)

abbrev pub Rows : {A : Type 0} → (Text → A) → List (String × A) → Type 0
Rows f rows = map (λ row. option_map f (read (written row.0))) rows ≡ map (λ row. Some row.1) rows

-- Whether bytes are a number, and whether they begin one, as functions. That they say what the grammar says is a law.
use Rattle.std.specs.Prelude.{ℕ, Bool, false, Option, Some, None, is_some, List}
use Rattle.gj_number.specs.declared.state.State.{State}
use Rattle.gj_number.specs.declared.state.State.TheVariants.{Start}
use Rattle.gj_number.specs.Internal.NumberMachine.{may_end_in, state_after}

abbrev pub may_end_at : Option State → Bool
may_end_at (Some state) = may_end_in state
may_end_at None = false

unfoldable pub is_number : List ℕ → Bool
is_number bytes = may_end_at (state_after (Some Start) bytes)

unfoldable pub begins_number : List ℕ → Bool
begins_number bytes = is_some (state_after (Some Start) bytes)

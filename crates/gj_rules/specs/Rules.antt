-- What the rules stand for. Its body is internal: a caller needs that `new` stands for no events, and that each call
-- keeps it.
use Rattle.std.specs.Prelude.{◌≡◌, ℕ, ◌≤◌, List, ◌++◌, map}
use Rattle.gj_json.specs.declared.event.Event.{Event}
use Rattle.gj_json.specs.Tree.{Text, depth}
use Rattle.gj_rules.specs.declared.rules.FramedRules.{FramedRules}
use Rattle.gj_rules.specs.Internal.RulesState.{Stands}
use Rattle.gj_rules.specs.Levels.{levels_within}
use Rattle.gj_rules.specs.Internal.EventSteps.{run, start}
use Rattle.gj_rules.specs.Internal.LabelledEvents.{Told, event_of, text_told}

-- These events may have been reported to the rules. Nothing is said of events that no text within those levels begins with.
abbrev pub StandsFor : {frames : ℕ} → FramedRules frames → List Event → Type 0
StandsFor {frames} rules events = (text : Text) (done rest : List Told) → text_told text ≡ done ++ rest → map event_of done ≡ events
    → depth text.value ≤ levels_within frames → Stands rules (run done start)

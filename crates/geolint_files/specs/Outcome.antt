-- The status of a call, and the worst of the outcomes of its files.
use Rattle.std.specs.Prelude.{ℕ, Bool, true, false, List, [], ◌∷◌}
use Rattle.geolint_files.specs.declared.outcome.Outcome.{Outcome}
use Rattle.geolint_files.specs.declared.outcome.Outcome.TheVariants.{Pass, Fail, Unread}

abbrev pub status_of : Outcome → ℕ
status_of Pass = 0
status_of Fail = 1
status_of Unread = 2

abbrev pub outcome_of : Bool → Outcome
outcome_of true = Pass
outcome_of false = Fail

-- the worse of two
abbrev pub worse : Outcome → Outcome → Outcome
worse Unread second = Unread
worse Fail Unread = Unread
worse Fail second = Fail
worse Pass second = second

-- the worst of all: 2 where a file could not be read, or else 1 where one does not pass
abbrev pub worst : List Outcome → Outcome
worst [] = Pass
worst (first ∷ more) = worse first (worst more)

-- What a linter of features keeps, as bytes come and features are pulled.
use Rattle.std.specs.Prelude.{◌≡◌, ℕ, ◌+◌, ◌≤◌, min, true, false, if◌then◌else◌, List, [], ◌++◌, length, take, slice_get, None}
use Rattle.gj_json.specs.Limits.{Allowed}
use Rattle.gj_rules.specs.FeatureFindings.{FeatureFinding, commas}
use Rattle.gj_rules.specs.FeatureLinter.{StandsFor as LinterStandsFor, limits_of, refusal_of, sink_of}
use Rattle.gj_rules.specs.declared.linter.Progress.{Progress as Shown}
use Rattle.geolint_c.specs.declared.finding.Finding.{Finding}
use Rattle.geolint_c.specs.declared.finding.Progress.{Progress}
use Rattle.geolint_c.specs.declared.latest.TheConstants.{ROOM}
use Rattle.geolint_c.specs.Features.{Judging, OfFeatures, Judges, IsNextOf, tells_more}
use Rattle.geolint_c.specs.Handle.{AnswersBy, status_of}
use Rattle.geolint_c.specs.Latest.{Keeps}

-- it is before the first byte
abbrev pub Begins : Allowed → Judging → Type 0
Begins limits linter = Judges linter 0 limits [] × (refusal_of linter ≡ None)

-- it counts the features that have ended in the bytes taken
abbrev pub Counted : Judging → Type 0
Counted linter =
    (limits : Allowed) (bytes : List ℕ) → LinterStandsFor Keeps linter bytes → limits_of linter ≡ limits
    → OfFeatures linter limits bytes (λ found. (sink_of linter).told ≡ length found)

-- room for so many more
abbrev pub HasRoomFor : ℕ → ℕ → List FeatureFinding → Type 0
HasRoomFor more pulled found = (pulled ≤ length found) × (length found + more ≤ pulled + ROOM)

-- how many features can end in these bytes: as many as there are bytes, and one more than commas
abbrev pub most_in : List ℕ → ℕ
most_in run = min (length run) (commas run + 1)

-- it goes on after bytes, where there is room for the features that can end in them
abbrev pub GoesOn : Judging → List ℕ → Judging → Type 0
GoesOn old run new =
    (pulled : ℕ) (limits : Allowed) (bytes : List ℕ) → Judges old pulled limits bytes → OfFeatures old limits bytes (HasRoomFor (most_in run) pulled)
    → Judges new pulled limits (bytes ++ run)

abbrev pub ShowsOn : Judging → List ℕ → Shown → Judging → Type 0
ShowsOn old run shown new =
    (pulled : ℕ) (limits : Allowed) (bytes : List ℕ) → Judges old pulled limits bytes → AnswersBy limits (bytes ++ run) (status_of shown) (refusal_of new)

-- what a linter takes of a piece, where no finding is ready
pub record Takes (old : Judging) (pulled : ℕ) (piece : List ℕ) (told : Progress) (new : Judging) : Type 0 where
  pub within : told.taken ≤ length piece
  pub judges : (limits : Allowed) (bytes : List ℕ) → Judges old pulled limits bytes → Judges new pulled limits (bytes ++ take told.taken piece)
  pub answer : (limits : Allowed) (bytes : List ℕ) → Judges old pulled limits bytes
      → AnswersBy limits (bytes ++ take told.taken piece) told.status (refusal_of new)
  pub ready : told.ready ≡ (if tells_more new pulled then 1 else 0)
  pub all : tells_more new pulled ≡ false → told.taken ≡ length piece

-- the next feature that a linter reported, where it reported more
abbrev pub IsPulled : Judging → ℕ → Finding → Type 0
IsPulled linter pulled told =
    (limits : Allowed) (bytes : List ℕ) → Judges linter pulled limits bytes → tells_more linter pulled ≡ true
    → OfFeatures linter limits bytes (λ found. IsNextOf (slice_get found pulled) true told)

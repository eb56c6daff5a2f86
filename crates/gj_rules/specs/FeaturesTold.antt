-- What is reported of the features of a text, beside what is found in them.
use Rattle.std.specs.Prelude.{◌≡◌, List, [], ◌∷◌}
use Rattle.gj_coords.specs.WarningsStand.{StandsFor as WarningsStandFor}
use Rattle.gj_rules.specs.declared.feature.Feature.{Feature}
use Rattle.gj_rules.specs.FeatureFindings.{FeatureFinding}

-- the end is known by the place of the closing bracket, before it
abbrev pub SaysFinding : Feature → FeatureFinding → Type 0
SaysFinding told finding = (told.index ≡ finding.index) × (told.place ≡ finding.place) × (told.close ≡ finding.close) × (told.id ≡ finding.id)
    × (told.fault ≡ finding.fault) × WarningsStandFor told.warnings finding.warnings

-- as many, each in its turn
abbrev pub SayFindings : List Feature → List FeatureFinding → Type 0
SayFindings [] [] = Unit {0}
SayFindings (told ∷ more) (finding ∷ others) = SaysFinding told finding × SayFindings more others
SayFindings _ _ = ⊥

-- features were reported, by a sink of which this holds, that say these findings
abbrev pub TellFindings : (List Feature → Type 0) → List FeatureFinding → Type 0
TellFindings Told findings = (features : List Feature) × Told features × SayFindings features findings

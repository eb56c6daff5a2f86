-- What the totals of a run are of the features that were reported.
use Rattle.std.specs.Prelude.{◌≡◌, ◌==◌, ℕ, true, if◌then◌else◌, List, [], ◌∷◌, Option, Some, None}
use Rattle.gj_coords.specs.declared.fault.Fault.{Fault}
use Rattle.gj_coords.specs.Internal.KeptWarnings.{joined, no_warnings}
use Rattle.gj_rules.specs.declared.feature.Feature.{Feature}
use Rattle.gj_join.specs.declared.totals.Totals.{Totals}

abbrev pub none_yet : Totals
none_yet = record { features = 0; close = 0; warnings = no_warnings; is_sound = true }

-- with the next feature, of which this is the fault, and this the place of the bracket
abbrev pub with_next : Option Fault → Option ℕ → Feature → Totals → Totals
with_next None (Some close) feature totals =
    record { features = feature.index; close = close; warnings = joined totals.warnings feature.warnings; is_sound = true }
with_next _ _ feature totals = record totals { is_sound = feature.index == 0 }

abbrev pub with_feature : Totals → Feature → Totals
with_feature totals feature = if totals.is_sound then with_next feature.fault feature.close feature totals else totals

abbrev pub with_features : Totals → List Feature → Totals
with_features totals [] = totals
with_features totals (feature ∷ more) = with_features (with_feature totals feature) more

abbrev pub IsTotalOf : Totals → List Feature → Type 0
IsTotalOf totals features = totals ≡ with_features none_yet features

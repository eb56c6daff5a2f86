-- What is reported of a feature in which nothing is found.
use Rattle.std.specs.Prelude.{Some, None}
use Rattle.gj_coords.specs.Internal.KeptWarnings.{no_warnings}
use Rattle.gj_rules.specs.declared.feature.Feature.{Feature}
use Rattle.gj_rules.specs.declared.feature.CleanFeature.{CleanFeature}

-- it has no fault and no warning
abbrev pub feature_of : CleanFeature → Feature
feature_of clean = record { index = clean.index; place = clean.place; close = Some clean.close; id = clean.id; fault = None; warnings = no_warnings }

-- What a value stands as in its text, whatever the types of the objects around it, and which types an object may then
-- have (RFC 7946, sections 1.4, 3, 3.1.8, 3.2 and 3.3).
use Rattle.std.specs.Prelude.{Bool, true, false}
use Rattle.gj_json.specs.declared.names.Word.{Word}
use Rattle.gj_rules.specs.declared.role.Role.{Role}

-- a GeoJSON text may be of each of the nine types, a geometry of the seven geometry types, a feature of the type Feature
abbrev pub is_allowed : Role → Word → Bool
is_allowed role Word.Other = false
is_allowed Role.Root word = true
is_allowed Role.Feature Word.Feature = true
is_allowed Role.Feature word = false
is_allowed role Word.Feature = false
is_allowed role Word.FeatureCollection = false
is_allowed role word = true

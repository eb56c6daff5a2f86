-- What the definitions find in the features of some texts, by computing.
use Rattle.gj_rules.proofs.Common.{G1, G2, W9, fault_at, feature_findings, findings_by, refl, warning_at, [], ◌∷◌}
use Rattle.std.proofs.Common.{Some, None}
use Rattle.gj_json.specs.Names.{known_of, word_of}
use Rattle.gj_coords.specs.declared.fault.Rule.TheVariants.{G7}
use Rattle.gj_coords.proofs.Examples.TextRows.{Rows, begins_number, class_of, is_number, number_class, plain_step}

-- the fourth names no type
rows : Rows feature_findings (
    ("{'type':'FeatureCollection','features':[]}", [])
    ∷ ("{'features':{}}", [])
    ∷ ("{'features':[],'features':[7]}", [])
    ∷ (
      "{'features':[7,{'id':'a'}]}",
      record { index = 0; place = 13; end = 14; close = None; id = None; fault = Some (fault_at 13 G1); warnings = [] }
          ∷ record { index = 1; place = 15; end = 25; close = Some 24; id = Some 21; fault = Some (fault_at 15 G2); warnings = [] } ∷ [],
    )
    ∷ (
      "{'features':[{'features':[7]}]}",
      record { index = 0; place = 13; end = 29; close = Some 28; id = None; fault = Some (fault_at 13 G2); warnings = [] } ∷ [],
    )
    ∷ (
      "{'features':[{'type':'Feature','geometry':null,'properties':null,'crs':1}]}",
      record { index = 0; place = 13; end = 73; close = Some 72; id = None; fault = None; warnings = warning_at 65 W9 ∷ [] } ∷ [],
    )
    ∷ (
      "{'features':[{'type':'Feature','geometry':null,'crs':1}]}",
      record { index = 0; place = 13; end = 55; close = Some 54; id = None; fault = Some (fault_at 13 G7); warnings = [] } ∷ [],
    )
    ∷ [])
unfolding plain_step class_of number_class is_number begins_number known_of word_of
rows = refl

-- the comma shows that the number has ended
before_the_comma : Rows (findings_by 14) (("{'features':[7,{'id':'a'}]}", []) ∷ [])
unfolding plain_step class_of number_class is_number begins_number known_of word_of
before_the_comma = refl

after_the_comma : Rows (findings_by 15) ((
  "{'features':[7,{'id':'a'}]}",
  record { index = 0; place = 13; end = 14; close = None; id = None; fault = Some (fault_at 13 G1); warnings = [] } ∷ [],
) ∷ [])
unfolding plain_step class_of number_class is_number begins_number known_of word_of
after_the_comma = refl

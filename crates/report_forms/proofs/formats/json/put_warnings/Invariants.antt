use Rattle.report_forms.proofs.Common.{take, ◌++◌, ◌≡◌, flat_map, kinds}
use Rattle.report_forms.specs.Forms.Json.{json_kind, with_commas}
use Rattle.report_forms.specs.Internal.WrittenCommas.{is_none_yet}
use Rattle.report_forms.proofs.formats.json.put_warnings.Given as goal

-- the objects of the kinds before this one are there
abbrev pub invariant-loop-kind : goal.invariant-loop-kind
invariant-loop-kind l =
    let objects = flat_map (json_kind l.report l.warnings) (take l.kind-index kinds) in
    record {
      done : l.line.items ≡ l.initial.line.items ++ with_commas objects;
      first : l.is_first ≡ is_none_yet objects;
    }

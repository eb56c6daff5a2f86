-- The names that many proofs cite, passed on from one place.
pub use Rattle.std.proofs.Common.{Bool, List, Some, [], ap, arith, codes, false, get_or, length, map, refl, replicate, subst, sym, take, true, ℕ, ◌++◌, ◌+◌}
pub use Rattle.std.proofs.Common.{◌<◌, ◌∙◌, ◌∷◌, ◌≡◌, ◌≤◌}
pub use Rattle.std.specs.List.{All, flat_map}
pub use Rattle.geolint_report.specs.Texts.{code_name}
pub use Rattle.geolint_report.specs.declared.every.listing.Note.{Note}
pub use Rattle.geolint_report.specs.declared.texts.Code.{Code}
pub use Rattle.gj_coords.specs.Warnings.{kinds}
pub use Rattle.gj_coords.specs.declared.kind.Kind.{Kind}
pub use Rattle.gj_coords.specs.declared.kind.Kind.TheVariants.{W1}
pub use Rattle.gj_coords.specs.declared.warnings.Warnings.{Warnings}
pub use Rattle.gj_json.specs.declared.fault.Cause.TheVariants.{Syntax}
pub use Rattle.gj_rules.specs.declared.records.framing.Framing.{Framing}
pub use Rattle.part_lines.specs.LineObject.{AreNotes, AreWarningsOf}
pub use Rattle.part_lines.specs.declared.line.PartLine.{PartLine}
pub use Rattle.file_parts.specs.declared.checked.CheckedPart.{CheckedPart}
pub use Rattle.serde_json.specs.Data.{Data}
pub use Rattle.serde_json.specs.View.{view}

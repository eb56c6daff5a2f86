-- The names of std and of the crates below that most proofs cite, passed on from one place.
pub use Rattle.std.proofs.Common.{Bool, List, [], ap, append_assoc, arith, codes, false, get_or, length, refl, subst, sym, take, true, ℕ, ◌&&◌, ◌++◌}
pub use Rattle.std.proofs.Common.{◌+◌, ◌<◌, ◌∙◌, ◌∷◌, ◌≡◌}
pub use Rattle.std.proofs.lemmas.Result.{on_ok_weaker}
pub use Rattle.std.specs.Fmt.{decimal}
pub use Rattle.std.specs.List.{flat_map}
pub use Rattle.std.specs.Prelude.{Option, string_bytes}
pub use Rattle.geolint_report.specs.Texts.{code_name, code_text}
pub use Rattle.geolint_report.specs.declared.texts.Code.{Code}
pub use Rattle.gj_coords.specs.Warnings.{kinds}
pub use Rattle.gj_coords.specs.declared.kind.Kind.{Kind}
pub use Rattle.gj_coords.specs.declared.kind.Kind.TheVariants.{W1}
pub use Rattle.gj_json.specs.Path.{steps_of}
pub use Rattle.gj_json.specs.declared.fault.Cause.{Cause}

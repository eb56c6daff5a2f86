-- The names that many proofs cite, passed on from one place.
pub use Rattle.std.proofs.Common.{IfSome, List, Option, ap, arith, length, refl, subst, sym, take, ℕ, ◌+◌, ◌-◌, ◌<◌, ◌∙◌, ◌≡◌, ◌≤◌}
pub use Rattle.gj_join.specs.Parts.{limits_after}
pub use Rattle.gj_json.specs.Limits.{Allowed}
pub use Rattle.gj_rules.specs.declared.records.framing.Framing.{Framing}
pub use Rattle.file_parts.specs.Cuts.{bytes_between}
pub use Rattle.file_parts.specs.declared.checked.CheckedPart.{CheckedPart}

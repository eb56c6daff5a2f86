-- The names that many proofs cite, passed on from one place.
pub use Rattle.std.proofs.Common.{List, None, Option, Some, [], ap, append-nil, append_assoc, arith, drop, false, get_or, inl, inr, length, length-append}
pub use Rattle.std.proofs.Common.{refl, rules, subst, sym, take, true, ℕ, ◌++◌, ◌+◌, ◌-◌, ◌<◌, ◌^◌, ◌∙◌, ◌∷◌, ◌≡◌, ◌≤◌, ◌⊎◌}
pub use Rattle.std.proofs.KnownBytes.{Consumes-trans}
pub use Rattle.std.proofs.lemmas.Bool.{cases_lt}
pub use Rattle.std.proofs.lemmas.List.{length-take-le, take_all}
pub use Rattle.std.specs.Io.Iter.{u64_saturate}
pub use Rattle.std.specs.Io.KnownBytes.{Consumes}
pub use Rattle.std.specs.List.{Contains, flat_map}
pub use Rattle.std.specs.List.Sorted.{IsNonDecreasing}
pub use Rattle.geolint_report.specs.Internal.SecondReading.{Seeks}
pub use Rattle.geolint_report.specs.Sites.{AreRight, sought, text_of}
pub use Rattle.geolint_report.specs.declared.every.listing.Asked.{Asked}
pub use Rattle.geolint_report.specs.declared.every.listing.Note.{Note}
pub use Rattle.geolint_report.specs.declared.sites.Site.{Site}
pub use Rattle.gj_coords.specs.Warnings.{kinds}
pub use Rattle.gj_json.specs.Limits.{Allowed}
pub use Rattle.gj_places.specs.Counting.{StandsFor}
pub use Rattle.gj_rules.specs.RecordFindings.{IsWholeVerdict}
pub use Rattle.gj_rules.specs.Verdict.{IsVerdict}
pub use Rattle.gj_rules.specs.declared.records.framing.Framing.{Framing}

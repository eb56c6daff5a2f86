-- The names that many proofs cite, passed on from one place.
pub use Rattle.gj_coords.specs.Warnings.{Warning, shifted_by}
pub use Rattle.gj_join.specs.Joined.{joined_judgement, moved_finding}
pub use Rattle.gj_join.specs.Parts.{ArePartsOf, limits_after, separator_last}
pub use Rattle.gj_json.specs.Limits.{Allowed}
pub use Rattle.gj_rules.specs.RecordFindings.{AreFindings, IsNumberedVerdict}
pub use Rattle.gj_rules.specs.Records.{Part, entries_from, is_counted, number_after, part_at, parts_of}
pub use Rattle.gj_rules.specs.Sequence.{SequenceJudgement, shifted_verdict}
pub use Rattle.gj_rules.specs.declared.records.framing.Framing.{Framing}
pub use Rattle.gj_rules.specs.declared.records.framing.Framing.TheVariants.{Lines, Sequence}
pub use Rattle.gj_rules.specs.declared.records.framing.RecordEnd.{RecordEnd}
pub use Rattle.gj_rules.specs.declared.records.framing.RecordEnd.TheVariants.{Input, Limit, Separator}
pub use Rattle.gj_rules.specs.declared.records.record.Record.{Record}
pub use Rattle.gj_rules.specs.declared.verdict.Verdict.{Verdict}
pub use Rattle.std.proofs.Common.{Bool, List, Some, ap, arith, false, inl, inr, length, length-append, map, refl, subst, suc, sym, take, true, zero}
pub use Rattle.std.proofs.Common.{ℕ, [], ◌++◌, ◌+◌, ◌-◌, ◌<◌, ◌∙◌, ◌∷◌, ◌≡◌, ◌≤◌}
pub use Rattle.std.proofs.lemmas.Bool.{cases_Bool, false≢true}
pub use Rattle.std.proofs.lemmas.List.{map-append}
pub use Rattle.std.specs.Prelude.{nat_lt}

-- The names that many proofs cite, passed on from one place.
pub use Rattle.gj_coords.specs.declared.fault.Fault.{Fault}
pub use Rattle.gj_json.specs.Bytes.{IsWhite, close_bracket, line_feed}
pub use Rattle.gj_json.specs.Grammar.{Exactly, Spells, SpellsElements, SpellsMembers, SpellsMoreElements, SpellsMoreMembers, Then, White}
pub use Rattle.gj_json.specs.Limits.{Allowed}
pub use Rattle.gj_json.specs.Refusal.{IsAdmitted, IsRefusal}
pub use Rattle.gj_json.specs.Text.{IsText, IsTextWithin}
pub use Rattle.gj_json.specs.Tree.{Elements, Members, Text, Tree, array, constant, depth, element, end_of_array, end_of_object, member, number}
pub use Rattle.gj_json.specs.Tree.{object, place_of, string}
pub use Rattle.gj_json.specs.declared.constant.Constant.{Constant}
pub use Rattle.gj_json.specs.declared.constant.Constant.TheVariants.{False, Null, True}
pub use Rattle.gj_number.proofs.Grammar.FoundParts.{all-append}
pub use Rattle.gj_rules.specs.Faults.{text_faults}
pub use Rattle.gj_rules.specs.FeatureFindings.{end_of, features_of}
pub use Rattle.gj_rules.specs.Sequence.{separator}
pub use Rattle.gj_rules.specs.Verdict.{IsVerdict}
pub use Rattle.gj_rules.specs.declared.feature.Feature.{Feature}
pub use Rattle.gj_rules.specs.declared.records.framing.Framing.{Framing}
pub use Rattle.gj_rules.specs.declared.records.record.Record.{Record}
pub use Rattle.gj_rules.specs.declared.verdict.Verdict.{Verdict}
pub use Rattle.gj_rules.specs.declared.verdict.Verdict.TheVariants.{Broken, NotJson, Valid}
pub use Rattle.gj_split.specs.Holding.{AreHeld}
pub use Rattle.gj_split.specs.Internal.ScannedValues.{is_running, scan_length}
pub use Rattle.gj_split.specs.Ranges.{StandsAt}
pub use Rattle.gj_split.specs.RecordSplit.{split_records}
pub use Rattle.gj_split.specs.Split.{IsValidSequence, Split, bytes_between, split_of, with_feature}
pub use Rattle.gj_split.specs.declared.scan.Scan.{Scan}
pub use Rattle.gj_split.specs.declared.splitter.Counts.{Counts}
pub use Rattle.std.proofs.Common.{Bool, List, None, Ok, Option, Some, add-zero, ap, append_assoc, arith, drop, false, if◌then◌else◌, inl, inr, length}
pub use Rattle.std.proofs.Common.{map, refl, rules, subst, suc, sym, take, true, ℕ, [], ◌++◌, ◌+◌, ◌-◌, ◌<◌, ◌∙◌, ◌∷◌, ◌≡◌, ◌≤◌, ◌⊎◌}
pub use Rattle.std.proofs.lemmas.Bool.{ne_eqb}
pub use Rattle.std.proofs.lemmas.List.{take-append-drop}
pub use Rattle.std.proofs.lemmas.Option.{same_Some}
pub use Rattle.std.specs.Io.KnownBytes.{Appends}
pub use Rattle.std.specs.List.{AllByRecursion}

-- The names that many proofs cite, passed on from one place.
pub use Rattle.gj_coords.specs.CoordinateWarnings.{coordinates_warnings, warned_if}
pub use Rattle.gj_coords.specs.Fault.{comes_first, fault_at, least, lesser}
pub use Rattle.gj_coords.specs.Internal.CoordinatesKept.{coordinates_kept}
pub use Rattle.gj_coords.specs.Internal.KeptWarnings.{added, warnings_of}
pub use Rattle.gj_coords.specs.Internal.LeastLaws.{least-append, lesser-none, lesser_assoc}
pub use Rattle.gj_coords.specs.Internal.SentEvents.{event_at}
pub use Rattle.gj_coords.specs.Internal.WarningLaws.{added_is, joined_assoc, joined_none_first, joined_none_last, warnings_of-append}
pub use Rattle.gj_coords.specs.Internal.WarningLaws.{warnings_of_none}
pub use Rattle.gj_coords.specs.Items.{elements_of, items, place_of}
pub use Rattle.gj_coords.specs.Shape.{coordinates_faults}
pub use Rattle.gj_coords.specs.Warnings.{Warning, warning_at}
pub use Rattle.gj_coords.specs.declared.fault.Fault.{Fault}
pub use Rattle.gj_coords.specs.declared.fault.Rule.{Rule}
pub use Rattle.gj_coords.specs.declared.fault.Rule.TheVariants.{G1, G2, G8}
pub use Rattle.gj_coords.specs.declared.kind.Kind.{Kind}
pub use Rattle.gj_coords.specs.declared.kind.Kind.TheVariants.{W1, W7, W9}
pub use Rattle.gj_coords.specs.declared.simple.Simple.{Simple}
pub use Rattle.gj_coords.specs.declared.warnings.Warnings.{Warnings}
pub use Rattle.gj_json.specs.CutPosition.{flats_events}
pub use Rattle.gj_json.specs.Events.{all_events, by, elements_events, events, events_by, mark_events, members_events, text_events, timed}
pub use Rattle.gj_json.specs.Events.{value_events}
pub use Rattle.gj_json.specs.Flat.{flat_events, number_event, numbers_of}
pub use Rattle.gj_json.specs.Grammar.{Spells, SpellsElements, SpellsMembers, SpellsMoreElements, SpellsMoreMembers}
pub use Rattle.gj_json.specs.Head.{located_events}
pub use Rattle.gj_json.specs.Ignored.{levels_behind}
pub use Rattle.gj_json.specs.Limits.{Allowed}
pub use Rattle.gj_json.specs.Open.{open_at}
pub use Rattle.gj_json.specs.Refusal.{IsAdmitted, IsRefusal, RefusedFor, Stops}
pub use Rattle.gj_json.specs.Text.{IsText, IsViableWithin}
pub use Rattle.gj_json.specs.Tree.{Members, Text, Tree, array, constant, depth, element, end_of_array, end_of_object, member, number, object, string}
pub use Rattle.gj_json.specs.declared.constant.Constant.TheVariants.{False, Null, True}
pub use Rattle.gj_json.specs.declared.event.Event.{Event}
pub use Rattle.gj_json.specs.declared.event.What.{What}
pub use Rattle.gj_json.specs.declared.fault.Cause.{Cause}
pub use Rattle.gj_json.specs.declared.fault.Cause.TheVariants.{Depth, Length, Syntax, Truncated}
pub use Rattle.gj_json.specs.declared.fault.JsonFault.{JsonFault}
pub use Rattle.gj_json.specs.declared.flat.Flat.{Flat}
pub use Rattle.gj_json.specs.declared.flat.Numbered.{Numbered}
pub use Rattle.gj_json.specs.declared.names.Known.TheVariants.{Coordinates, Crs, Features, Geometries, Geometry, Id, Other, Properties, TypeName}
pub use Rattle.gj_json.specs.declared.names.Word.{Word}
pub use Rattle.gj_rules.specs.Faults.{First, all_faults, faults, first, text_faults}
pub use Rattle.gj_rules.specs.FeatureFindings.{complete_at, complete_in, elements_if, feature_findings, features_of, findings_by, findings_from}
pub use Rattle.gj_rules.specs.Internal.BytesBefore.{has_byte}
pub use Rattle.gj_rules.specs.Internal.EventSteps.{Core, Feed, State, core_step, idle, is_feeding, member_of, mode_behind, names_step, run, start}
pub use Rattle.gj_rules.specs.Internal.EventSteps.{step}
pub use Rattle.gj_rules.specs.Internal.FeatureSteps.{FeaturesAre, Stand, features_by, features_from}
pub use Rattle.gj_rules.specs.Internal.FrameCalls.{blank, settled, taken_any, taken_in}
pub use Rattle.gj_rules.specs.Internal.FrameMeaning.{Findings, Frame, MemberSlots, MemberWarnings, Shapes}
pub use Rattle.gj_rules.specs.Internal.FrameReading.{frame_in, slots_in}
pub use Rattle.gj_rules.specs.Internal.GatheredWarnings.{gathered}
pub use Rattle.gj_rules.specs.Internal.LabelledEvents.{Told, at_of, elements_told, event_of, mark_told, members_told, plain, text_told, told}
pub use Rattle.gj_rules.specs.Internal.LostObjects.{is_lost}
pub use Rattle.gj_rules.specs.Internal.MemberRules.{asked_fault, is_among, missing, rules_of}
pub use Rattle.gj_rules.specs.Internal.OpenMembers.{due_known, joined_to, judge, named_known, slot_of, uses, with_slot}
pub use Rattle.gj_rules.specs.Internal.RulesState.{Fed, Holds, HoldsIn, Stands, core_of, top_of}
pub use Rattle.gj_rules.specs.Internal.Summaries.{alike, asked, asked_as, no_shapes, shape_for, shapes_of, warned_for}
pub use Rattle.gj_rules.specs.Internal.TextKept.{all_kept, and_kept, first_kept, marked_kept, or_none, text_kept}
pub use Rattle.gj_rules.specs.Internal.ToldPlaces.{TellsPlace}
pub use Rattle.gj_rules.specs.Internal.VerdictParts.{verdict_of}
pub use Rattle.gj_rules.specs.Judged.{judged_at, judged_in}
pub use Rattle.gj_rules.specs.Levels.{levels_within, most_levels}
pub use Rattle.gj_rules.specs.Members.{forbidden_by, is_known, mentions, one, repeated, same, simple_of, type_of}
pub use Rattle.gj_rules.specs.RecordFindings.{AreFindings, IsNumberedVerdict, IsOwnVerdict, after, whole_from, whole_of}
pub use Rattle.gj_rules.specs.Records.{Entry, Part, entries_from, entries_in, entries_of, entry_at, first_number, is_too_long, number_from, part_at}
pub use Rattle.gj_rules.specs.Records.{parts_from, separator_of}
pub use Rattle.gj_rules.specs.RecordsStand.{HaveTold, HaveToldIf}
pub use Rattle.gj_rules.specs.Role.{is_allowed}
pub use Rattle.gj_rules.specs.Sequence.{AllValid, IsFirstFailing, IsJudgedBy, IsRecordVerdict, IsSequenceVerdict, IsUndecided, SequenceRecord}
pub use Rattle.gj_rules.specs.Sequence.{begins_with_separator, cut_fault, ends_in_line_feed, has_separator, if_ended, is_separator, is_stray}
pub use Rattle.gj_rules.specs.Sequence.{is_valid, not_json, own_limits, record_end, records_from, records_of, separator, shifted_verdict}
pub use Rattle.gj_rules.specs.Sequence.{up_to_separator}
pub use Rattle.gj_rules.specs.SequenceStands.{IsSettled, is_decided}
pub use Rattle.gj_rules.specs.TextWarnings.{crs_warnings, first_value, first_warnings, text_warnings, warnings}
pub use Rattle.gj_rules.specs.Verdict.{IsVerdict, Judgement, broken, valid}
pub use Rattle.gj_rules.specs.declared.feature_rules.FeatureCount.{FeatureCount}
pub use Rattle.gj_rules.specs.declared.member_slots.Slot.{Slot}
pub use Rattle.gj_rules.specs.declared.member_slots.TypeValue.{TypeValue}
pub use Rattle.gj_rules.specs.declared.member_slots.member_rules.MemberRules.{MemberRules}
pub use Rattle.gj_rules.specs.declared.mode.Mode.{Mode}
pub use Rattle.gj_rules.specs.declared.mode.Mode.TheVariants.{Done, Due, Names, RootDue}
pub use Rattle.gj_rules.specs.declared.records.framing.Framing.{Framing}
pub use Rattle.gj_rules.specs.declared.records.framing.Framing.TheVariants.{Lines}
pub use Rattle.gj_rules.specs.declared.records.framing.RecordEnd.{RecordEnd}
pub use Rattle.gj_rules.specs.declared.records.framing.RecordEnd.TheVariants.{Input, Limit, Separator}
pub use Rattle.gj_rules.specs.declared.records.record.Record.{Record}
pub use Rattle.gj_rules.specs.declared.role.Role.{Role}
pub use Rattle.gj_rules.specs.declared.rules.FramedRules.{FramedRules}
pub use Rattle.gj_rules.specs.declared.rules.TheConstants.{MOST_FRAMES}
pub use Rattle.gj_rules.specs.declared.sequence.verdict.SeqVerdict.{SeqVerdict}
pub use Rattle.gj_rules.specs.declared.verdict.Verdict.{Verdict}
pub use Rattle.gj_rules.specs.declared.verdict.Verdict.TheVariants.{Broken, NotJson, Valid}
pub use Rattle.std.proofs.Common.{Bool, IsTrue, List, add-zero, ap, append_assoc, arith, bit_and, codes, drop, false, get_or, if◌then◌else◌, inl, inr}
pub use Rattle.std.proofs.Common.{is_some, length, map, nat_eq, nat_le, nat_lt, not, refl, reverse, rules, subst, suc, sym, take, true, zero, []}
pub use Rattle.std.proofs.Common.{⊎_elim, ◌&&◌, ◌*◌, ◌++◌, ◌+◌, ◌-◌, ◌<◌, ◌^◌, ◌||◌, ◌∙◌, ◌∷◌, ◌≤◌, ◌⊎◌}
pub use Rattle.std.proofs.Math.Path.{fun_ext}
pub use Rattle.std.proofs.Math.Seq.{take-append-add, take-length}
pub use Rattle.std.proofs.lemmas.Bool.{cases_lt}
pub use Rattle.std.proofs.lemmas.Bool.Decides.{nat_tests}
pub use Rattle.std.proofs.lemmas.List.{length-map, map-append, take_all}
pub use Rattle.std.specs.List.{AllByRecursion, flat_map}
pub use Rattle.std.specs.Option.{option_to_list}

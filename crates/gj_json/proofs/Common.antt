-- The names that many proofs cite, passed on from one place.
pub use Rattle.gj_json.specs.Broken.{BeginsCharacter, BeginsQuoted, Named, Opened, SpellsBroken, SpellsLeaf, broken_depth}
pub use Rattle.gj_json.specs.Bytes.{IsWhite, backslash, close_brace, close_bracket, letter_u, open_brace, open_bracket, space}
pub use Rattle.gj_json.specs.Characters.{IsPlain, SpellsCharacter, SpellsContent}
pub use Rattle.gj_json.specs.Events.{Timed, all_events, elements_events, events, events_by, mark_events, members_events, text_events, timed, what_of}
pub use Rattle.gj_json.specs.Flat.{flat_events}
pub use Rattle.gj_json.specs.Grammar.{Exactly, Quoted, Spells, SpellsElements, SpellsMembers, SpellsMoreElements, SpellsMoreMembers, letters_of}
pub use Rattle.gj_json.specs.Ignored.{Leaves}
pub use Rattle.gj_json.specs.Internal.ByteClasses.{Means, first_letter}
pub use Rattle.gj_json.specs.Internal.ContentWords.{Words, words_of}
pub use Rattle.gj_json.specs.Internal.FedReader.{FeedsAll, FeedsAny, FeedsTo, FeedsWithin, GoesOn, IsOpenFor, OfPrefix, Passed, Skips, above}
pub use Rattle.gj_json.specs.Internal.FlatParts.{IsDueAt, IsItem, IsValued, awaits, cut}
pub use Rattle.gj_json.specs.Internal.KeptContent.{Holds, IsAscii, words_in}
pub use Rattle.gj_json.specs.Internal.NamedBytes.{mark_first, mark_second, mark_third}
pub use Rattle.gj_json.specs.Internal.OpenLevels.{inner_of, outer_of}
pub use Rattle.gj_json.specs.Internal.PathTrail.{TrailAt, advanced, inner_steps, outer_steps}
pub use Rattle.gj_json.specs.Internal.QuietBytes.{IsQuiet, is_unescaped_ascii, is_white}
pub use Rattle.gj_json.specs.Internal.ReaderState.{FitsBroken, FitsLeaf, FitsName, LeafAs, StandsAs, StandsOpen, StandsRefused, StandsWell, levels_of}
pub use Rattle.gj_json.specs.Internal.ReaderState.{levels_with}
pub use Rattle.gj_json.specs.Internal.ReaderStep.{Applied, PassesTo, RefusesWith, Takes, move_by, opened, told_by, told_on}
pub use Rattle.gj_json.specs.Internal.SeenEvents.{BegunAs, ConstantAt, EdgeAt, InTime, IsTimely, done_elements, done_members, leaf_timed}
pub use Rattle.gj_json.specs.Internal.SeenEvents.{partial_timed, seen, stack_timed}
pub use Rattle.gj_json.specs.Internal.SpelledNumbers.{IsFlat, SpellsNumbers}
pub use Rattle.gj_json.specs.Internal.SpelledPositions.{SpellsPositions, place_after, place_after_all}
pub use Rattle.gj_json.specs.Internal.TextMachine.{StringStep, after_value, begin_value, finish, finish_leaf, letters_after, run, run_from, step}
pub use Rattle.gj_json.specs.Internal.TextMachine.{step_array_opened, step_colon_due, step_constant, step_leaf, step_name, step_name_due, step_number}
pub use Rattle.gj_json.specs.Internal.TextMachine.{step_object_opened, step_string, step_value_due, string_ends, string_goes, string_next}
pub use Rattle.gj_json.specs.Internal.TextMachine.{string_refuses, text_with, to, with_mark, within}
pub use Rattle.gj_json.specs.Internal.ToldEvents.{NumberTurn, Refuses, closing_of, emitted, ending_event, event_at, in_number, number_events}
pub use Rattle.gj_json.specs.Internal.ToldEvents.{opening_of, start_after, text_state, turn_of}
pub use Rattle.gj_json.specs.Internal.Transitions.{IsMode, after_move, constant_move, move_of, name_string_move, number_move, string_move}
pub use Rattle.gj_json.specs.Internal.Transitions.{value_string_move}
pub use Rattle.gj_json.specs.Internal.UnderWay.{ComesFrom, HasValue, HasWords, Keeps, Turns, Under, under_leaf, under_of}
pub use Rattle.gj_json.specs.Internal.WholeHeads.{IsTyped}
pub use Rattle.gj_json.specs.Internal.WholeTokens.{AreCharacters, IsQuoted, IsString, Lands, names}
pub use Rattle.gj_json.specs.Internal.WideCharacters.{NoneEnds, ends_at}
pub use Rattle.gj_json.specs.Limits.{Allowed}
pub use Rattle.gj_json.specs.Open.{open_at}
pub use Rattle.gj_json.specs.Path.{path_at}
pub use Rattle.gj_json.specs.Reader.{Completed, StandsFor}
pub use Rattle.gj_json.specs.Refusal.{IsAdmitted, IsRefusal, RefusedFor}
pub use Rattle.gj_json.specs.Runs.{IsLongestUtf8, is_unescaped, plain_run_of}
pub use Rattle.gj_json.specs.Text.{IsText, IsViable, IsViableWithin, SpellsMark}
pub use Rattle.gj_json.specs.Tree.{Elements, Members, Text, Tree, array, constant, depth, element, elements_depth, end_of_array, end_of_object}
pub use Rattle.gj_json.specs.Tree.{member, object, string}
pub use Rattle.gj_json.specs.Utf8Bytes.{Lead, high_of, low_of}
pub use Rattle.gj_json.specs.declared.class.Class.{Class}
pub use Rattle.gj_json.specs.declared.class.Class.TheVariants.{CloseArray, CloseObject, Colon, Comma, Letter, NumberStart, OpenArray, OpenObject}
pub use Rattle.gj_json.specs.declared.class.Class.TheVariants.{Other, Quote}
pub use Rattle.gj_json.specs.declared.constant.Constant.{Constant}
pub use Rattle.gj_json.specs.declared.constant.Constant.TheVariants.{False, Null, True}
pub use Rattle.gj_json.specs.declared.content.Content.{Content}
pub use Rattle.gj_json.specs.declared.cut_position.CutPosition.{CutPosition}
pub use Rattle.gj_json.specs.declared.event.Event.{Event}
pub use Rattle.gj_json.specs.declared.event.What.{What}
pub use Rattle.gj_json.specs.declared.fault.Cause.{Cause}
pub use Rattle.gj_json.specs.declared.fault.Cause.TheVariants.{Depth, Length, Syntax, Truncated}
pub use Rattle.gj_json.specs.declared.fault.JsonFault.{JsonFault}
pub use Rattle.gj_json.specs.declared.flat.Flat.{Flat}
pub use Rattle.gj_json.specs.declared.flat.Numbered.{Numbered}
pub use Rattle.gj_json.specs.declared.levels.Level.{Level}
pub use Rattle.gj_json.specs.declared.levels.Level.TheVariants.{Array, Object}
pub use Rattle.gj_json.specs.declared.mode.Bounds.{Bounds}
pub use Rattle.gj_json.specs.declared.mode.Bounds.TheVariants.{AfterE0, AfterED, AfterF0, AfterF4, Any}
pub use Rattle.gj_json.specs.declared.mode.Ending.{Ending}
pub use Rattle.gj_json.specs.declared.mode.Ending.TheVariants.{Item, Nothing}
pub use Rattle.gj_json.specs.declared.mode.Mode.{Mode}
pub use Rattle.gj_json.specs.declared.mode.Mode.TheVariants.{ColonDue, ConstantOn, MarkOne, MarkTwo, NameDue, NameOn, NumberOn, TextDue, ValueDone}
pub use Rattle.gj_json.specs.declared.mode.Mode.TheVariants.{ValueDue}
pub use Rattle.gj_json.specs.declared.mode.Move.{Move}
pub use Rattle.gj_json.specs.declared.mode.Move.TheVariants.{Close, Go, Open, Refuse}
pub use Rattle.gj_json.specs.declared.mode.StringState.{StringState}
pub use Rattle.gj_json.specs.declared.mode.StringState.TheVariants.{Plain}
pub use Rattle.gj_json.specs.declared.names.Known.TheVariants.{Coordinates, Geometry, TypeName}
pub use Rattle.gj_json.specs.declared.names.Word.{Word}
pub use Rattle.gj_json.specs.declared.path.PathStep.{PathStep}
pub use Rattle.gj_json.specs.declared.path.PathStep.TheVariants.{Index}
pub use Rattle.gj_json.specs.declared.reader.Reader.{Reader}
pub use Rattle.gj_number.specs.Exact.{Exact}
pub use Rattle.gj_number.specs.Grammar.{BeginsNumber, IsNumber}
pub use Rattle.gj_number.specs.Short.{StartsWithNumber, exact_of}
pub use Rattle.gj_number.specs.Value.{value_of}
pub use Rattle.gj_number.specs.declared.literal.Literal.{Literal}
pub use Rattle.gj_number.specs.declared.short.Short.{Short}
pub use Rattle.std.proofs.Common.{Bool, Err, List, None, Ok, Option, Result, Some, ap, append_assoc, ap₂, arith, bit_and, codes, cond, drop, eqb}
pub use Rattle.std.proofs.Common.{false, get_or, if◌then◌else◌, inl, inr, leb, length, ltb, map, min, nat_le, nat_lt, not, refl, rules, subst, suc}
pub use Rattle.std.proofs.Common.{sym, take-add, true, w64, w8, zero, ℕ, [], ◌%◌, ◌&&◌, ◌*◌, ◌++◌, ◌+◌, ◌-◌, ◌/◌, ◌<◌, ◌==◌, ◌^◌, ◌↔◌, ◌∙◌, ◌∷◌, ◌≡◌}
pub use Rattle.std.proofs.Common.{◌≢◌, ◌≤◌, ◌⊎◌}
pub use Rattle.std.proofs.lemmas.Bool.{agree_below, agree_below_at, cases_lt, le-leb}
pub use Rattle.std.proofs.lemmas.Bool.Decides.{eqb_tells, nat_tests}
pub use Rattle.std.proofs.lemmas.List.{get_or-drop, length-map, length-take-le, map-append, map-id, take-append-drop, take-take, take_more}
pub use Rattle.std.proofs.lemmas.List.Sums.{prefix_len-le-length}
pub use Rattle.std.proofs.lemmas.Nat.{and_le_r}
pub use Rattle.std.proofs.lemmas.Simd.{leading_from_mask_l, mask_l-mod, trailing_mask_l, zip2_splat}
pub use Rattle.std.specs.List.{AllByRecursion, prefix_len}
pub use Rattle.std.specs.Option.{option_to_list}
pub use Rattle.std.specs.Str.{bytes_eq}
pub use lib.Lanes.{Each1, mask_l, zip2}
pub use mir.Val.{SFits, bool_byte}

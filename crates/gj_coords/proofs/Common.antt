-- The names that many proofs cite, passed on from one place.
pub use Rattle.gj_coords.specs.CoordinateWarnings.{Concern, coordinates_warnings, each, position_warnings}
pub use Rattle.gj_coords.specs.Fault.{comes_first, fault_at, least, lesser}
pub use Rattle.gj_coords.specs.Internal.AddedPositions.{StayAll}
pub use Rattle.gj_coords.specs.Internal.CoordinatesKept.{first_answer, second_answer, third_answer}
pub use Rattle.gj_coords.specs.Internal.CutPositionGather.{counted_noted}
pub use Rattle.gj_coords.specs.Internal.FlatPosition.{flat_first, flat_position, precise_noted}
pub use Rattle.gj_coords.specs.Internal.GatheredWarningLaws.{taken_is}
pub use Rattle.gj_coords.specs.Internal.GatheredWarnings.{all_in, no_warned, warnings_in}
pub use Rattle.gj_coords.specs.Internal.Gathering.{Gathering, gathered, given}
pub use Rattle.gj_coords.specs.Internal.KeptWarnings.{joined_noted, kept, noted_as, shifted_noted}
pub use Rattle.gj_coords.specs.Internal.LevelGather.{Line, WholeSummary, fault_as, first_gathering, level, other, second_gathering, third_gathering}
pub use Rattle.gj_coords.specs.Internal.LevelGather.{warned_as}
pub use Rattle.gj_coords.specs.Internal.PositionGather.{arrays_counted, numbers_gathering, position_answer, position_closed, sound_noted}
pub use Rattle.gj_coords.specs.Internal.PositionWarnings.{position_warned}
pub use Rattle.gj_coords.specs.Internal.PositionsGather.{position_added, role_behind}
pub use Rattle.gj_coords.specs.Internal.Progress.{done, in_first, in_second, in_third, progress_machine, waiting}
pub use Rattle.gj_coords.specs.Internal.RingLaws.{ring_least}
pub use Rattle.gj_coords.specs.Internal.SentEvents.{elements_sent, event_at, head, sent}
pub use Rattle.gj_coords.specs.Internal.SteadyWalk.{IsCounted, first_steady, second_steady}
pub use Rattle.gj_coords.specs.Internal.ValueMachine.{IsCountable, run}
pub use Rattle.gj_coords.specs.Internal.WarningLaws.{added_is, by_kind_alike, joined_none_first, kept_by_kind}
pub use Rattle.gj_coords.specs.Internal.WindingGather.{turn_in}
pub use Rattle.gj_coords.specs.Items.{elements_of, items, place_of}
pub use Rattle.gj_coords.specs.Shape.{coordinates_faults, position, ring}
pub use Rattle.gj_coords.specs.Warnings.{Warning, first_of, greatest_count, index_of, kinds, places_of, same_kind, warning_at}
pub use Rattle.gj_coords.specs.Winding.{ring_turn}
pub use Rattle.gj_coords.specs.declared.fault.Fault.{Fault}
pub use Rattle.gj_coords.specs.declared.fault.Rule.TheVariants.{G11, G14}
pub use Rattle.gj_coords.specs.declared.kind.Kind.{Kind}
pub use Rattle.gj_coords.specs.declared.kind.Kind.TheVariants.{W1, W2, W3, W4, W5, W6, W8}
pub use Rattle.gj_coords.specs.declared.kind_warnings.KindWarnings.{KindWarnings}
pub use Rattle.gj_coords.specs.declared.position.Numbers.{Numbers}
pub use Rattle.gj_coords.specs.declared.position.Values.{Values}
pub use Rattle.gj_coords.specs.declared.simple.Simple.{Simple}
pub use Rattle.gj_coords.specs.declared.simple.Simple.TheVariants.{LineString, MultiLineString, MultiPoint, MultiPolygon, Point, Polygon}
pub use Rattle.gj_coords.specs.declared.walk.Depth.TheVariants.{First, Second, Third}
pub use Rattle.gj_coords.specs.declared.walk.level.Level.{Level}
pub use Rattle.gj_coords.specs.declared.walk.outermost.Outermost.{Outermost}
pub use Rattle.gj_coords.specs.declared.warned.Warned.{Warned}
pub use Rattle.gj_coords.specs.declared.warnings.Warnings.{Warnings}
pub use Rattle.gj_coords.specs.declared.winding.Corner.{Corner}
pub use Rattle.gj_json.specs.CutPosition.{AreCutPositions, IsCutPosition}
pub use Rattle.gj_json.specs.Events.{value_events}
pub use Rattle.gj_json.specs.Flat.{flat_events}
pub use Rattle.gj_json.specs.Tree.{Elements, Tree, array, constant, depth, element, end_of_array, end_of_object, member, number, object, string}
pub use Rattle.gj_json.specs.declared.event.Event.{Event}
pub use Rattle.gj_json.specs.declared.event.What.{What}
pub use Rattle.gj_json.specs.declared.flat.Flat.{Flat}
pub use Rattle.gj_json.specs.declared.flat.Numbered.{Numbered}
pub use Rattle.std.proofs.Common.{FitsSigned, ap, append-nil, append_assoc, arith, of_z, pos, rules, subst, sym, take, w16, ℤ, ◌%◌, ◌&&◌, ◌*◌, ◌∙◌}
pub use Rattle.std.proofs.lemmas.Bool.Decides.{nat_tests}
pub use Rattle.std.proofs.lemmas.Int.{ints, to_z-of_z}
pub use Rattle.std.specs.Int.{w32, w64}
pub use Rattle.std.specs.List.{flat_map}

-- The names that many proofs cite, passed on from one place.
pub use Rattle.gj_number.specs.Bytes.{IsDigit, IsExponentLetter, IsFirstDigit, IsNumberByte, close_bracket, comma, decimal_point, minus_sign}
pub use Rattle.gj_number.specs.Bytes.{plus_sign, space, zero_digit}
pub use Rattle.gj_number.specs.Denotation.{Parts, Spells, SpellsExponent, SpellsExponentSign, SpellsFraction, SpellsSign, scale_of, whole_of}
pub use Rattle.gj_number.specs.Exact.{Exact, IsNormal, cut_magnitude, cut_of, cut_within, places_of, signed, zero_exact}
pub use Rattle.gj_number.specs.Grammar.{BeginsNumber, IsDigits, IsFraction, IsNatural, IsNumber}
pub use Rattle.gj_number.specs.Cuts.{IsSpan}
pub use Rattle.gj_number.specs.Internal.CutLanes.{after_point, before_point, cut_in, in_lanes, rests_in}
pub use Rattle.gj_number.specs.Internal.DigitLanes.{lane_of, leading, with_value}
pub use Rattle.gj_number.specs.Internal.DigitRuns.{IsPointed, IsRun, SpellsOn, SpellsUnsigned, StartsSigned}
pub use Rattle.gj_number.specs.Internal.KeptParts.{HasDigits, IsFar, IsKept, limited_cut, limited_to}
pub use Rattle.gj_number.specs.Internal.MovedPoint.{SpellsPlain}
pub use Rattle.gj_number.specs.Internal.NumberMachine.{Means, Reaches, Scan, may_end_in, next_of, start, taken}
pub use Rattle.gj_number.specs.Short.{StartsOrdinary, StartsUsual, StartsUsualPair, StartsWithNumber, StartsWithPair}
pub use Rattle.gj_number.specs.Value.{number_of, stripped, tens_in, with_digit}
pub use Rattle.gj_number.specs.declared.short.cuts.Span.{Span}
pub use Rattle.gj_number.specs.declared.state.Class.{Class}
pub use Rattle.gj_number.specs.declared.state.Class.TheVariants.{Letter, Minus, NonZero, Other, Plus, Point, Zero}
pub use Rattle.gj_number.specs.declared.state.State.{State}
pub use Rattle.gj_number.specs.declared.state.State.TheVariants.{AfterLetter, AfterMinus, AfterPoint, AfterSign, AfterZero, InExponent, InFraction}
pub use Rattle.gj_number.specs.declared.state.State.TheVariants.{InNatural, Start}
pub use Rattle.std.proofs.Common.{Bool, Fits, IsTrue, List, None, Option, Some, ap, append-nil, append_assoc, arith, cond, drop, false, get_or}
pub use Rattle.std.proofs.Common.{if◌then◌else◌, inl, inr, leb, length, length-drop, ltb, map, min, negsuc, not, refl, replicate, rules, subst, suc}
pub use Rattle.std.proofs.Common.{sym, take, true, unsigned_abs, w64, w8, zero, ℕ, ℤ, [], ◌%◌, ◌*◌, ◌++◌, ◌+ℤ◌, ◌+◌, ◌-ℤ◌, ◌-◌, ◌/◌, ◌<◌, ◌==◌, ◌^◌}
pub use Rattle.std.proofs.Common.{◌||◌, ◌↔◌, ◌∙◌, ◌∷◌, ◌≡◌, ◌≢◌, ◌≤◌, ◌⊎◌}
pub use Rattle.std.proofs.Math.Nat.{le-mul_of_pos_right, mul-le-mul_right, mul_assoc, pow-le-pow_right, pow-suc}
pub use Rattle.std.proofs.Math.Numerals.{add-one}
pub use Rattle.std.proofs.Math.Seq.{drop-cons, take-add, take-append_seam}
pub use Rattle.std.proofs.lemmas.Bool.{cases_lt}
pub use Rattle.std.proofs.lemmas.Bool.Decides.{eqb_tells, nat_tests}
pub use Rattle.std.proofs.lemmas.Int.{ints, to_z-of_z}
pub use Rattle.std.proofs.lemmas.List.{drop-drop, drop-take, get_or-drop, get_or-map, get_or-take, length-map, length-take, length-take-le}
pub use Rattle.std.proofs.lemmas.List.{map-append, take-append-drop, take-map, take-take, take_more, take_rest}
pub use Rattle.std.proofs.lemmas.List.Elements.{All-append, All-from_recursion, recursion_from_All}
pub use Rattle.std.proofs.lemmas.List.Sums.{fold-append}
pub use Rattle.std.proofs.lemmas.Nat.{pow-add}
pub use Rattle.std.proofs.lemmas.Simd.{Each1-chunk, tops_compared}
pub use Rattle.std.specs.List.{AllByRecursion}
pub use Rattle.std.specs.Prelude.{option_map}
pub use lib.Bits.{bit_and}
pub use lib.Count.{count_trailing_zeros}
pub use lib.Lanes.{mask_l, zip2}
pub use mir.Val.{SFits, bool_byte}

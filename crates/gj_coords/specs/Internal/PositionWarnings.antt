-- The reader of a position reports what is worth a warning in it.
use Rattle.std.specs.Prelude.{◌≡◌, ℕ, zero, suc, ◌+◌, List, [], ◌∷◌, ◌++◌, Option, Some, None, is_none, is_some, Bool, true, false, ◌&&◌, not, refl, take}
use Rattle.std.specs.Prelude.{length, nat_lt, if◌then◌else◌}
use Rattle.std.specs.List.{flat_map}
use Rattle.std.proofs.Common.{arith, ◌∙◌, ap}
use Rattle.std.proofs.lemmas.Bool.Decides.{nat_tests}
use Rattle.gj_json.specs.Tree.{Tree, array}
use Rattle.gj_coords.specs.declared.fault.Fault.{Fault}
use Rattle.gj_coords.specs.declared.kind.Kind.TheVariants.{W3, W4, W5}
use Rattle.gj_coords.specs.declared.kind_warnings.KindWarnings.{KindWarnings}
use Rattle.gj_coords.specs.declared.position.Numbers.{Numbers}
use Rattle.gj_coords.specs.Internal.PositionGather.{Position}
use Rattle.gj_coords.specs.declared.warned.Warned.{Warned}
use Rattle.gj_coords.specs.declared.warnings.Warnings.{Warnings}
use Rattle.gj_coords.specs.declared.winding.Corner.{Corner}
use Rattle.gj_coords.specs.Fault.{lesser, least, comes_first}
use Rattle.gj_coords.specs.Items.{items, place_of}
use Rattle.gj_coords.specs.Ring.{exact_value}
use Rattle.gj_coords.specs.Shape.{is_empty, position}
use Rattle.gj_coords.specs.Winding.{cut_position, in_range}
use Rattle.gj_coords.specs.Warnings.{Warning}
use Rattle.gj_coords.specs.CoordinateWarnings.{warned_if, is_precise, number_warnings, sound_position_warnings, position_warnings}
use Rattle.gj_coords.specs.Internal.SentEvents.{head}
use Rattle.gj_coords.specs.Internal.Gathering.{gathered}
use Rattle.gj_coords.specs.Internal.KeptWarnings.{is_nothing, warnings_of, joined, with_noted}
use Rattle.gj_coords.specs.Internal.GatheredWarnings.{all_in, noted_when}
use Rattle.gj_coords.specs.Internal.PositionGather.{value_in, precise_with, numbers_start, number_added, numbers_gathering, position_answer, corner_in}
use Rattle.gj_coords.specs.Internal.PositionGather.{position_noted, sound_noted, judged_noted}
use Rattle.gj_coords.specs.Internal.ElementCountLaws.{gathered_count}
use Rattle.gj_coords.specs.Internal.PositionLaws.{among_first, not_among_first, pushed_count, pushed_full, value_head, position_fault, position_head}
use Rattle.gj_coords.specs.Internal.WarningLaws.{joined_step, added_is}
use Rattle.gj_coords.specs.Internal.GatheredWarningLaws.{none_more, noted_when_is, with_nothing, with_one_more, some_noted_is}
use Rattle.gj_coords.specs.Internal.WindingLaws.{answered_corner}

-- ---- numbers of more than seven places

pub place_head : (v : Tree) → (head v).place ≡ place_of v
place_head (array place es close) = refl
place_head _ = refl

with_precise : (precise : Bool) (a : Warnings) (noted : KindWarnings) (place : ℕ) →
    with_noted a W4 (precise_with precise place noted) ≡ joined (with_noted a W4 noted) (warnings_of (warned_if precise place W4))
with_precise true a noted place = with_one_more a noted place ∙ added_is (with_noted a W4 noted) W4 place
with_precise false a noted place = none_more (with_noted a W4 noted)

warned_head : (v : Tree) → warned_if (is_precise (value_in (head v).what)) (head v).place W4 ≡ number_warnings v
warned_head v =
    ap (λ value. warned_if (is_precise value) (head v).place W4) (value_head v) ∙ ap (λ place. warned_if (is_precise (exact_value v)) place W4) (place_head v)

numbers_precise : (vs : List Tree) (left : ℕ) (s : Numbers) (a : Warnings) → s.values.count + left ≡ 3 →
    with_noted a W4 (gathered numbers_gathering head s vs).precise ≡ joined (with_noted a W4 s.precise) (warnings_of (flat_map number_warnings (take left vs)))
numbers_precise [] zero s a h = none_more (with_noted a W4 s.precise)
numbers_precise [] (suc left) s a h = none_more (with_noted a W4 s.precise)
numbers_precise (v ∷ more) zero s a h =
    numbers_precise more 0 (number_added s (head v)) a (ap (λ x. x.count + 0) (pushed_full s.values.count (value_in (head v).what) s.values h) ∙ h) ∙
    (ap (λ b. joined (with_noted a W4 (precise_with (b && is_precise (value_in (head v).what)) (head v).place s.precise))
    (warnings_of (flat_map number_warnings (take 0 more))))
    (not_among_first s.values.count h))
numbers_precise (v ∷ more) (suc left) s a h =
    joined_step (with_noted a W4 s.precise) (warnings_of (number_warnings v)) (number_warnings v) (flat_map number_warnings (take left more)) _
    (numbers_precise more left (number_added s (head v)) a (pushed_count s.values.count left (value_in (head v).what) s.values h) ∙
    ap (λ x. joined x (warnings_of (flat_map number_warnings (take left more))))
    (ap (λ b. with_noted a W4 (precise_with (b && is_precise (value_in (head v).what)) (head v).place s.precise)) (among_first s.values.count left h) ∙
    (with_precise (is_precise (value_in (head v).what)) a s.precise (head v).place ∙
    ap (λ ws. joined (with_noted a W4 s.precise) (warnings_of ws)) (warned_head v))))
    refl

-- ---- a position without a fault

more_than_three : (c n : ℕ) → nat_lt c 4 ≡ nat_lt (0 + n) 4 → nat_lt 3 c ≡ nat_lt 3 n
more_than_three c n h = grind (arith, nat_tests)

long_position : (place : ℕ) (vs : List Tree) → nat_lt 3 (gathered numbers_gathering head (numbers_start place) vs).tally.count ≡ nat_lt 3 (length vs)
long_position place vs =
    more_than_three _ (length vs) (gathered_count numbers_gathering head (λ g. g.tally) (λ g a. refl) 4 (omega arith) vs (numbers_start place))

none_or_some : (corner : Option Corner) → is_none corner ≡ not (is_some corner)
none_or_some None = refl
none_or_some (Some corner) = refl

-- three lists, one after another
three_noted : (w : Warned) (place count : ℕ) (corner : Option Corner) (precise : KindWarnings) (long outside : Bool) (numbers : List Warning) →
    nat_lt 3 count ≡ long → is_none corner ≡ outside → ((a : Warnings) → with_noted a W4 precise ≡ joined a (warnings_of numbers)) →
    all_in (position_noted w place count corner precise) ≡ joined (all_in w) (warnings_of (warned_if long place W3 ++ (warned_if outside place W5 ++ numbers)))
three_noted w place count corner precise long outside numbers h k p =
    let w3 : Warned = noted_when (nat_lt 3 count) w W3 place in
    let w5 : Warned = noted_when (is_none corner) w3 W5 place in
    joined_step (all_in w) (warnings_of (warned_if long place W3)) (warned_if long place W3) (warned_if outside place W5 ++ numbers) _
    (joined_step (joined (all_in w) (warnings_of (warned_if long place W3))) (warnings_of (warned_if outside place W5)) (warned_if outside place W5) numbers _
    (some_noted_is (is_nothing precise) w5 precise refl ∙
    (p (all_in w5) ∙
    ap (λ x. joined x (warnings_of numbers))
    (noted_when_is (is_none corner) w3 W5 place ∙
    (ap (λ x. joined x (warnings_of (warned_if (is_none corner) place W5))) (noted_when_is (nat_lt 3 count) w W3 place) ∙
    (ap (λ b. joined (joined (all_in w) (warnings_of (warned_if b place W3))) (warnings_of (warned_if (is_none corner) place W5))) h ∙
    ap (λ b. joined (joined (all_in w) (warnings_of (warned_if long place W3))) (warnings_of (warned_if b place W5))) k)))))
    refl)
    refl

sound_position_noted : (w : Warned) (place : ℕ) (es : _) (close : ℕ) →
    all_in (sound_noted w (position_answer (array place es close))) ≡ joined (all_in w) (warnings_of (sound_position_warnings (array place es close)))
sound_position_noted w place es close =
    let v : Tree = array place es close in
    let p : Position = position_answer v in
    ap (λ at. all_in (position_noted w at p.count (corner_in p.values) p.precise)) (ap (λ e. e.place) (position_head v)) ∙
    three_noted w place p.count (corner_in p.values) p.precise (nat_lt 3 (length (items es))) (not (in_range v)) (flat_map number_warnings (take 3 (items es)))
    (long_position place (items es))
    (ap (λ c. is_none c) (answered_corner v) ∙ none_or_some (cut_position v))
    (λ a. numbers_precise (items es) 3 (numbers_start place) a refl
    ∙ ap (λ x. joined x (warnings_of (flat_map number_warnings (take 3 (items es))))) (with_nothing a))

-- ---- a position, with or without a fault

by_order : (first : Bool) (x y : Fault) (w : Warned) (p : Position) → judged_noted (if first then Some x else Some y) w p ≡ w
by_order true x y w p = refl
by_order false x y w p = refl

broken_noted : (x : Fault) (o : Option Fault) (w : Warned) (p : Position) → judged_noted (lesser (Some x) o) w p ≡ w
broken_noted x None w p = refl
broken_noted x (Some y) w p = by_order (comes_first x y) x y w p

judged_position : (faults : List Fault) (fault : Option Fault) (w : Warned) (p : Position) (warnings : List Warning) → fault ≡ least faults →
    all_in (sound_noted w p) ≡ joined (all_in w) (warnings_of warnings) →
    all_in (judged_noted fault w p) ≡ joined (all_in w) (warnings_of (if is_empty faults then warnings else []))
judged_position [] fault w p warnings e h = ap (λ o. all_in (judged_noted o w p)) e ∙ h
judged_position (x ∷ xs) fault w p warnings e h =
    ap (λ o. all_in (judged_noted o w p)) e ∙ (ap all_in (broken_noted x (least xs) w p) ∙ none_more (all_in w))

-- what a position adds
pub position_warned : (w : Warned) (v : Tree) →
    all_in (judged_noted (position_answer v).fault w (position_answer v)) ≡ joined (all_in w) (warnings_of (position_warnings v))
position_warned w (array place es close) =
    let v : Tree = array place es close in
    judged_position (position v) (position_answer v).fault w (position_answer v) (sound_position_warnings v) (position_fault v)
    (sound_position_noted w place es close)
position_warned w _ = none_more (all_in w)

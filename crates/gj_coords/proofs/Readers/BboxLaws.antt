-- What a bounding box answers.
use Rattle.gj_coords.proofs.Common.{Event, IsCountable, Tree, W8, added_is, append-nil, ap, arith, array, constant}
use Rattle.gj_coords.proofs.Common.{end_of_object, event_at, fault_at, flat_map, gathered, head, items, joined_none_first, least, nat_tests, object}
use Rattle.gj_coords.proofs.Common.{sent, subst, sym, warning_at, What, ◌%◌, ◌∙◌}
use Rattle.std.proofs.Common.{◌≡◌, ℕ, suc, zero, ◌+◌, ◌^◌, ◌-◌, ◌≤◌, ◌==◌, ◌||◌, ◌++◌, List, [], ◌∷◌, Some, None, not, refl, add-one, length, nat_lt}
use Rattle.std.proofs.Common.{if◌then◌else◌, Bool, true, false}
use Rattle.gj_json.specs.declared.constant.Constant.TheVariants.{Null}
use Rattle.gj_coords.specs.declared.bbox.Bbox.{Bbox}
use Rattle.gj_coords.specs.declared.bbox.BoxElements.{BoxElements}
use Rattle.gj_coords.specs.declared.fault.Rule.TheVariants.{G20, G21}
use Rattle.gj_coords.specs.Box.{is_wrong_length, bbox_faults}
use Rattle.gj_coords.specs.BoxWarnings.{south_above_north, bbox_warnings}
use Rattle.gj_coords.specs.Ring.{exact_value}
use Rattle.gj_coords.specs.Shape.{number_or}
use Rattle.gj_coords.specs.Winding.{cut_value}
use Rattle.gj_coords.specs.Internal.BoxElements.{BoxFindings, unlike_number, latitude_added, is_upside_down, no_elements, box_gathering, box_machine, box_answer}
use Rattle.gj_coords.specs.Internal.ElementCountLaws.{gathered_fault, both_least}
use Rattle.gj_coords.specs.Internal.ElementReader.{due, inside, levels_after}
use Rattle.gj_coords.specs.Internal.KeptWarnings.{warnings_of, no_warnings, added}
use Rattle.gj_coords.specs.Internal.LeastLaws.{least_if}
use Rattle.gj_coords.specs.Internal.PositionGather.{value_in}
use Rattle.gj_coords.specs.Internal.PositionLaws.{value_head}
use Rattle.gj_coords.specs.Internal.SentEvents.{members_sent}
use Rattle.gj_coords.specs.Internal.ValueMachine.{Reads}
use Rattle.gj_coords.specs.Internal.WarningLaws.{warnings_of_none}
use Rattle.gj_coords.proofs.Readers.PassedValues.{Passing, array_passed, object_passed}
use Rattle.gj_coords.proofs.Readers.RestsOfValues.{LeadsOn, elements_lead}

-- ---- its elements

number_least : (v : Tree) → unlike_number (head v).place (head v).what ≡ least (number_or G20 v)
number_least (constant Null place) = refl
number_least other = refl

one_odder : (n : ℕ) → not (n % 2 == 1) ≡ ((n + 1) % 2 == 1)
one_odder n = grind (arith, nat_tests)

gathered_odd : (vs : List Tree) (g : BoxElements) (n : ℕ) → g.odd ≡ (n % 2 == 1) → (gathered box_gathering head g vs).odd ≡ ((n + length vs) % 2 == 1)
gathered_odd [] g n h = h ∙ ap (λ k. k % 2 == 1) (omega arith)
gathered_odd (v ∷ more) g n h =
    gathered_odd more (box_gathering.added g (head v)) (n + 1) (ap not h ∙ one_odder n) ∙ ap (λ k. k % 2 == 1) (omega (arith, add-one n))

-- seven elements or more
stays_full : (vs : List Tree) (g : BoxElements) → g.latitudes.count ≡ 7 → (gathered box_gathering head g vs).latitudes.count ≡ 7
stays_full [] g h = h
stays_full (v ∷ more) g h =
    stays_full more (box_gathering.added g (head v)) (ap (λ n. (latitude_added n (value_in (head v).what) g.latitudes).count) h ∙ h)

cut_head : (v : Tree) → cut_value (value_in (head v).what) ≡ cut_value (exact_value v)
cut_head v = ap cut_value (value_head v)

-- what their count and those that give south and north say of all of them
record AreCounted (g : BoxElements) (vs : List Tree) : Type 0 where
  few : nat_lt g.latitudes.count 4 ≡ nat_lt (length vs) 4
  upside_down : is_upside_down g.latitudes.count g.latitudes ≡ south_above_north vs

many : (n : ℕ) → nat_lt 7 4 ≡ nat_lt (suc (suc (suc (suc (suc (suc (suc n))))))) 4
many n = grind (arith, nat_tests)

counted : (vs : List Tree) → AreCounted (gathered box_gathering head no_elements vs) vs
counted [] = record { few = refl; upside_down = refl }
counted (a ∷ []) = record { few = refl; upside_down = refl }
counted (a ∷ b ∷ []) = record { few = refl; upside_down = refl }
counted (a ∷ b ∷ c ∷ []) = record { few = refl; upside_down = refl }
counted (a ∷ b ∷ c ∷ d ∷ []) = record { few = refl; upside_down = rw (cut_head b, cut_head d) refl }
counted (a ∷ b ∷ c ∷ d ∷ e ∷ []) = record { few = refl; upside_down = refl }
counted (a ∷ b ∷ c ∷ d ∷ e ∷ f ∷ []) = record { few = refl; upside_down = rw (cut_head b, cut_head e) refl }
counted (a ∷ b ∷ c ∷ d ∷ e ∷ f ∷ g ∷ more) =
    let full : BoxElements = gathered box_gathering head no_elements (a ∷ b ∷ c ∷ d ∷ e ∷ f ∷ g ∷ []) in
    let last : BoxElements = gathered box_gathering head full more in
    let seven : last.latitudes.count ≡ 7 = stays_full more full refl in
    record { few = ap (λ n. nat_lt n 4) seven ∙ many (length more); upside_down = ap (λ n. is_upside_down n last.latitudes) seven }

-- ---- what it answers of a value

pub box_least : (v : Tree) → (box_answer v).fault ≡ least (bbox_faults v)
box_least (array place es close) =
    let vs : List Tree = items es in
    let g : BoxElements = gathered box_gathering head no_elements vs in
    both_least _ _ (if is_wrong_length (length vs) then fault_at place G21 ∷ [] else []) (flat_map (number_or G20) vs)
    (ap (λ b. if b || g.odd then Some (fault_at place G21) else None) (counted vs).few ∙
    (ap (λ b. if nat_lt (length vs) 4 || b then Some (fault_at place G21) else None)
    (gathered_odd vs no_elements 0 refl ∙ ap (λ k. k % 2 == 1) (omega arith)) ∙
    least_if (is_wrong_length (length vs)) (fault_at place G21)))
    (gathered_fault box_gathering head (λ g. g.fault) (λ e. unlike_number e.place e.what) (number_or G20) (λ g a. refl) number_least vs no_elements)
box_least (constant Null place) = refl
box_least _ = refl

warned_if_above : (above : Bool) (place : ℕ) →
    (if above then added no_warnings W8 place else no_warnings) ≡ warnings_of (if above then warning_at place W8 ∷ [] else [])
warned_if_above true place = added_is no_warnings W8 place ∙ joined_none_first (warnings_of (warning_at place W8 ∷ []))
warned_if_above false place = sym warnings_of_none

pub box_warned : (v : Tree) → (box_answer v).warnings ≡ warnings_of (bbox_warnings v)
box_warned (array place es close) =
    ap (λ b. if b then added no_warnings W8 place else no_warnings) (counted (items es)).upside_down ∙ warned_if_above (south_above_north (items es)) place
box_warned (constant Null place) = sym warnings_of_none
box_warned _ = sym warnings_of_none

-- ---- its events

abbrev Leads : Bbox → List Event → BoxFindings → Type 0
Leads = Reads box_machine

-- a bounding box where so many levels are open
abbrev open_box : Event → ℕ → BoxElements → Bbox
open_box first levels elements = record { value = inside first levels; elements = elements }

-- an element that is an array or object
over_levels : (first : Event) (g : BoxElements) (a : BoxFindings) (n : ℕ) → 1 ≤ n → (e : Event) (rest : List Event) →
    Leads (open_box first (levels_after (suc n) e.what) g) rest a → Leads (open_box first (suc n) g) (e ∷ rest) a
over_levels first g a zero above e rest h = absurd (omega arith)
over_levels first g a (suc n) above e rest h = (refl, h)

abbrev over_element : Event → BoxElements → BoxFindings → Passing
over_element first g a = record { floor = 1; Holds = λ n es. Leads (open_box first n g) es a; step = over_levels first g a }

-- a value that is an object, whatever is gathered
abbrev over_object : ℕ → Passing
over_object place = record {
  floor = 0;
  Holds = λ n es. (g : BoxElements) → Leads (open_box (event_at place What.OpenObject) n g) es (box_answer (object place end_of_object place));
  step = λ n above e rest h g. (refl, h _);
}

element_leads : (first : Event) (g : BoxElements) → LeadsOn box_machine (2 ^ 64 - 1) head (open_box first 1 g) (λ e. open_box first 1 (box_gathering.added g e))
element_leads first g (constant Null place) room rest a l = (refl, l)
element_leads first g (array place es close) room rest a l =
    (refl, array_passed (over_element first (box_gathering.added g (event_at place What.OpenArray)) a) es close 1 (omega arith) (omega arith) rest l)
element_leads first g (object place ms close) room rest a l =
    (refl, object_passed (over_element first (box_gathering.added g (event_at place What.OpenObject)) a) ms close 1 (omega arith) (omega arith) rest l)
element_leads first g _ room rest a l = (refl, l)

pub box_leads : (v : Tree) → IsCountable v → Leads (record { value = due; elements = no_elements }) (sent v) (box_answer v)
box_leads (constant Null place) room = (refl, (refl, refl))
box_leads (array place es close) room = (
  refl,
  elements_lead box_machine (2 ^ 64 - 1) box_gathering head (open_box (event_at place What.OpenArray) 1) (element_leads (event_at place What.OpenArray))
      es (omega arith) no_elements (event_at close What.CloseArray ∷ []) _ (refl, (refl, refl)),
)
box_leads (object place ms close) room = (
  refl,
  subst (λ es. Leads (open_box (event_at place What.OpenObject) 1 no_elements) es (box_answer (object place ms close)))
      (append-nil (members_sent ms ++ event_at close What.CloseObject ∷ []))
      (object_passed (over_object place) ms close 0 (omega arith) (omega arith) [] (λ g. (refl, refl)) no_elements),
)
box_leads _ room = (refl, (refl, refl))

-- The events of a value lead from `waiting` to its end, and to what its levels gather of it.
use Rattle.gj_coords.proofs.Common.{Event, IsCountable, Level, Line, Numbers, Outermost, Tree, What, WholeSummary, append-nil}
use Rattle.gj_coords.proofs.Common.{append_assoc, arith, array, constant, elements_sent, event_at, first_answer}
use Rattle.gj_coords.proofs.Common.{first_gathering, head, in_first, in_second, in_third, numbers_gathering, object, other}
use Rattle.gj_coords.proofs.Common.{position_answer, progress_machine, second_answer, second_gathering, sent, subst, third_answer, third_gathering}
use Rattle.gj_coords.proofs.Common.{waiting}
use Rattle.std.proofs.Common.{◌≡◌, suc, ◌^◌, List, [], ◌∷◌, ◌++◌, refl}
use Rattle.gj_json.specs.declared.constant.Constant.TheVariants.{Null}
use Rattle.gj_coords.specs.declared.element.Element.{Element}
use Rattle.gj_coords.specs.Internal.ValueMachine.{Reads}
use Rattle.gj_coords.specs.Internal.ElementReader.{inside}
use Rattle.gj_coords.specs.Internal.SentEvents.{members_sent}
use Rattle.gj_coords.specs.Internal.Progress.{Progress, in_fourth, past, broken, passed, passing, step_by}
use Rattle.gj_coords.proofs.Readers.PassedValues.{Passing, array_passed, object_passed}
use Rattle.gj_coords.proofs.Readers.RestsOfValues as Rests

abbrev Leads : Progress → List Event → WholeSummary → Type 0
Leads = Reads progress_machine

-- ---- a value that is read past

past_step : (what : What) (s : Progress) (o : Element) (e : Event) → step_by what (past s o) e ≡ passing (past s o) e
past_step What.OpenArray s o e = refl
past_step _ s o e = refl

abbrev over_element : Progress → Event → WholeSummary → Passing
over_element s first a = record {
  floor = 0;
  Holds = λ n es. Leads (passed s (inside first n)) es a;
  step = λ n above e rest h. (refl, rw (past_step e.what s (inside first (suc n)) e) h);
}

broken_step : (what : What) (o : Element) (e : Event) → step_by what (broken o) e ≡ passing (broken o) e
broken_step What.OpenArray o e = refl
broken_step _ o e = refl

abbrev over_value : Event → Passing
over_value first = record {
  floor = 0;
  Holds = λ n es. Leads (broken (inside first n)) es (other first.place);
  step = λ n above e rest h. (refl, rw (broken_step e.what (inside first (suc n)) e) h);
}

-- ---- an element of an open array

abbrev LeadsOn : {A : Type 0} → (Tree → A) → Progress → (A → Progress) → Type 0
LeadsOn = Rests.LeadsOn progress_machine (2 ^ 64)

fourth_leads : (g : Outermost) (h : Level) (k : Line) (n : Numbers) →
    LeadsOn head (in_fourth g h k n) (λ e. in_fourth g h k (numbers_gathering.added n e))
fourth_leads g h k n (constant Null place) room rest a l = (refl, l)
fourth_leads g h k n (array place es close) room rest a l =
    (refl, array_passed (over_element (in_fourth g h k n) (event_at place What.OpenArray) a) es close 0 (omega arith) (omega arith) rest l)
fourth_leads g h k n (object place ms close) room rest a l =
    (refl, object_passed (over_element (in_fourth g h k n) (event_at place What.OpenObject) a) ms close 0 (omega arith) (omega arith) rest l)
fourth_leads g h k n _ room rest a l = (refl, l)

third_leads : (g : Outermost) (h : Level) (k : Line) → LeadsOn position_answer (in_third g h k) (λ p. in_third g h (third_gathering.added k p))
third_leads g h k (constant Null place) room rest a l = (refl, l)
third_leads g h k (array place es close) room rest a l = (
  refl,
  rw (append_assoc (elements_sent es) (event_at close What.CloseArray ∷ []) rest)
      (Rests.elements_lead progress_machine (2 ^ 64) numbers_gathering head (λ n. in_fourth g h k n) (λ n. fourth_leads g h k n) es (omega arith) (numbers_gathering.opened place)
      (event_at close What.CloseArray ∷ rest) a (refl, l)),
)
third_leads g h k (object place ms close) room rest a l =
    (refl, object_passed (over_element (in_third g h k) (event_at place What.OpenObject) a) ms close 0 (omega arith) (omega arith) rest l)
third_leads g h k _ room rest a l = (refl, l)

second_leads : (g : Outermost) (h : Level) → LeadsOn third_answer (in_second g h) (λ b. in_second g (second_gathering.added h b))
second_leads g h (constant Null place) room rest a l = (refl, l)
second_leads g h (array place es close) room rest a l = (
  refl,
  rw (append_assoc (elements_sent es) (event_at close What.CloseArray ∷ []) rest)
      (Rests.elements_lead progress_machine (2 ^ 64) third_gathering position_answer (λ k. in_third g h k) (λ k. third_leads g h k) es (omega arith) (third_gathering.opened place)
      (event_at close What.CloseArray ∷ rest) a (refl, l)),
)
second_leads g h (object place ms close) room rest a l =
    (refl, object_passed (over_element (in_second g h) (event_at place What.OpenObject) a) ms close 0 (omega arith) (omega arith) rest l)
second_leads g h _ room rest a l = (refl, l)

first_leads : (g : Outermost) → LeadsOn second_answer (in_first g) (λ b. in_first (first_gathering.added g b))
first_leads g (constant Null place) room rest a l = (refl, l)
first_leads g (array place es close) room rest a l = (
  refl,
  rw (append_assoc (elements_sent es) (event_at close What.CloseArray ∷ []) rest)
      (Rests.elements_lead progress_machine (2 ^ 64) second_gathering third_answer (λ h. in_second g h) (λ h. second_leads g h) es (omega arith) (second_gathering.opened place)
      (event_at close What.CloseArray ∷ rest) a (refl, l)),
)
first_leads g (object place ms close) room rest a l =
    (refl, object_passed (over_element (in_first g) (event_at place What.OpenObject) a) ms close 0 (omega arith) (omega arith) rest l)
first_leads g _ room rest a l = (refl, l)

-- ---- the value

pub value_leads : (v : Tree) → IsCountable v → Leads waiting (sent v) (first_answer v)
value_leads (constant Null place) room = (refl, (refl, refl))
value_leads (array place es close) room = (
  refl,
  Rests.elements_lead progress_machine (2 ^ 64) first_gathering second_answer (λ g. in_first g) first_leads es (omega arith) (first_gathering.opened place)
      (event_at close What.CloseArray ∷ []) _ (refl, (refl, refl)),
)
value_leads (object place ms close) room = (
  refl,
  subst (λ es. Leads (broken (inside (event_at place What.OpenObject) 1)) es (other place)) (append-nil (members_sent ms ++ event_at close What.CloseObject ∷ []))
      (object_passed (over_value (event_at place What.OpenObject)) ms close 0 (omega arith) (omega arith) [] (refl, refl)),
)
value_leads _ room = (refl, (refl, refl))

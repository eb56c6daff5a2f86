-- An object that stands as a feature and names itself something else has a fault.
use Rattle.gj_rules.proofs.Common.{Role, Word, arith, false, is_allowed, refl, true, ◌∙◌}
use denote.Enum.Bare.{true_same}
use Rattle.std.proofs.Common.{◌≡◌, ◌≢◌}
use Rattle.std.proofs.lemmas.Grind.{common_steps}
use Rattle.gj_json.specs.contracts.names.Word.{the_type}
use Rattle.gj_rules.proofs.Objects.MetRules.{none_lesser}
use Rattle.gj_rules.proofs.member_slots.MemberSlots.is_sound_element.Goals as goal

no_other : (word : Word) → word ≢ Word.Feature → is_allowed Role.Feature word ≡ false
no_other Word.Feature h = absurd (h refl)
no_other _ h = refl

pub returns-else-eq-clause-none : goal.returns-else-eq-clause-none
returns-else-eq-clause-none c = λ _.
    let other : c.in-Feature-Some.value.word ≢ Word.Feature = λ e. (let l : false ≡ true = c.if-eq.ensures ∙ true_same the_type _ _ e in cc) in
    let no : is_allowed Role.Feature c.in-Feature-Some.value.word ≡ false = no_other _ other in
    grind (arith, common_steps, none_lesser)

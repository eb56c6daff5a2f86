-- What the linter finds is told in plain numbers.
use Rattle.std.proofs.Common.{◌≡◌, ◌↔◌, ◌+◌, ◌≤◌, ◌++◌, ℕ, Bool, true, false, IsTrue, if◌then◌else◌, length, drop, Some, None, IsSome, refl, sym, subst, ◌∙◌}
use Rattle.gj_json.specs.Limits.{Allowed}
use Rattle.gj_json.specs.Text.{IsTextWithin}
use Rattle.gj_rules.specs.FeatureFindings.{findings_by, least_found}
use Rattle.gj_join.specs.Runs.{IsLongestSum, IsOver, stand_at}
use Rattle.geolint_c.proofs.run.RunHandle.sum.Goals as goal

abbrev one_if : Bool → ℕ
one_if b = if b then 1 else 0

one_where : (b : Bool) (A : Type 0) → (IsTrue b ↔ A) → (one_if b ≡ 1) ↔ A
one_where true A h = (λ e. h.0 refl, λ a. refl)
one_where false A h = (λ e. (let f : 0 ≡ 1 = e in cc), λ a. (let f : false ≡ true = h.1 a in cc))

pub returns-in-Some : goal.returns-in-Some
returns-in-Some c =
    let run = c.in-Some.run' in
    record {
      sum = λ limits begin bytes s.
          let j = rw c.in-Some.is at s in
          let longest = subst (λ (l : Allowed). IsLongestSum l begin bytes c.sum.result) j.1 (c.sum.ensures begin bytes j.0) in
          (c.sum_of.ensures.done, (c.sum.result, longest, c.sum_of.ensures.says));
      fault = λ limits begin bytes s rest text within short few.
          let j = rw c.in-Some.is at s in
          let told = c.has_ended.ensures.fault begin bytes rest text j.0
          (subst (λ (l : Allowed). IsTextWithin l.depth text (stand_at begin ++ (bytes ++ rest))) (sym j.1) within)
          (subst (λ (l : Allowed). begin + length bytes ≤ l.bytes) (sym j.1) short) few in
          let Fault = IsSome (least_found (drop 1 (findings_by (begin + length bytes) text))) in
          subst (λ (n : ℕ). (n ≡ 1) ↔ Fault) (sym c.sum_of.ensures.ended) (one_where c.has_ended.result Fault told);
      over = λ limits begin bytes s one.
          let j = rw c.in-Some.is at s in
          let is : IsTrue c.has_ended.result = (one_where c.has_ended.result (IsTrue c.has_ended.result) (λ t. t, λ t. t)).0 (sym c.sum_of.ensures.ended ∙ one) in
          subst (λ (l : Allowed). IsOver l begin bytes) j.1 (c.has_ended.ensures.over begin bytes j.0 is);
      ended = λ e. (let f : None ≡ Some run = sym e ∙ c.in-Some.is in cc);
      unchanged = refl;
    }

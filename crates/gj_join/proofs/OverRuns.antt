-- Runs that no bytes make longer: what follows is refused, or a feature with a fault has ended.
use Rattle.std.proofs.Common.{◌≡◌, ◌↔◌, ℕ, ◌+◌, ◌-◌, ◌≤◌, ◌<◌, ◌^◌, Bool, true, false, inl, inr, if◌then◌else◌, List, [], ◌∷◌, ◌++◌, length, drop, take, Option, None, IsSome, IsTrue, nat_le, refl, sym, ap, subst, ◌∙◌, arith, append_assoc}
use Rattle.std.specs.List.{AllByRecursion}
use Rattle.std.proofs.lemmas.Bool.{cases_lt}
use Rattle.std.proofs.lemmas.List.{length-append, length-take, take-append-le}
use Rattle.std.proofs.Math.Seq.{take-append-add}
use Rattle.gj_json.specs.declared.fault.JsonFault.{JsonFault}
use Rattle.gj_json.specs.Events.{all_events}
use Rattle.gj_json.specs.Limits.{Allowed}
use Rattle.gj_json.specs.Text.{IsText, IsTextWithin, IsViableWithin}
use Rattle.gj_json.specs.Tree.{Tree, Text}
use Rattle.gj_json.proofs.Events.EventCount
use Rattle.gj_coords.specs.declared.fault.Fault.{Fault}
use Rattle.gj_coords.specs.Fault.{lesser}
use Rattle.gj_rules.specs.FeatureFindings.{complete_at, complete_in, findings_by, findings_from, least_found}
use Rattle.gj_rules.specs.Linter.{Answers, refusal_in}
use Rattle.gj_rules.specs.declared.linter.Progress.{Progress}
use Rattle.gj_rules.specs.declared.linter.Progress.TheVariants.{Open, Refused}
use Rattle.gj_join.specs.Runs.{AreFindingsOf, IsOver, IsRun, IsSumOf, stand_at, stand_end}
use Rattle.gj_join.specs.declared.sum.FeatureSum.{FeatureSum}
use Rattle.gj_join.proofs.FeatureOrder.{complete_first}
use Rattle.gj_join.proofs.RunsRead.{stand_length}
use Rattle.gj_join.proofs.RunSums.{closed_run, stand_element, stand_ends}
use Rattle.gj_join.proofs.SoundElements.{Sound, sound_trees}
use Rattle.gj_join.proofs.StandsRead.{not_refused}
use Rattle.gj_join.proofs.WholeVerdicts.{found_in}

none_least : (i n : ℕ) (us : List Tree) → Sound us → least_found (findings_from i (complete_in n us)) ≡ None
none_least i n [] s = refl
none_least i n (u ∷ us) s = by_test (nat_le (complete_at u) n) (none_least (i + 1) n us s.1)
  where
    by_test : (b : Bool) → least_found (findings_from (i + 1) (complete_in n us)) ≡ None
        → least_found (findings_from i (if b then u ∷ complete_in n us else [])) ≡ None
    by_test true e = ap (λ o. lesser o (least_found (findings_from (i + 1) (complete_in n us)))) s.0 ∙ e
    by_test false e = refl

never_open : (fault : JsonFault) → Refused fault ≡ Open → ⊥
never_open fault e = cc

never_some : IsSome (refusal_in Open) → ⊥
never_some e = cc

viable_before : (d : ℕ) (xs ys zs : List ℕ) → IsViableWithin d (xs ++ (ys ++ zs)) → IsViableWithin d (xs ++ ys)
viable_before d xs ys zs v =
    let e : (xs ++ (ys ++ zs)) ++ v.0 ≡ (xs ++ ys) ++ (zs ++ v.0) = ap (λ l. l ++ v.0) (sym (append_assoc xs ys zs)) ∙ append_assoc (xs ++ ys) zs v.0 in
    (zs ++ v.0, v.1, (subst (IsText v.1) e v.2.0, v.2.1))

module _ (limits : Allowed) (begin : ℕ) (bytes : List ℕ) where
  -- a run has no byte behind these
  over_by : ((more : List ℕ) (other : FeatureSum) → begin + length (bytes ++ more) ≤ limits.bytes → other.begin ≡ begin
      → IsSumOf limits.depth (bytes ++ more) other → ⊥) → IsOver limits begin bytes
  over_by never = λ sum rest is. record {
    begins = is.begins;
    within = omega (arith, is.within, length-append bytes rest);
    is_sum = subst (λ xs. IsSumOf limits.depth xs sum) (sym (take-append-le (sum.end - begin) bytes rest (omega (arith, is.within)))) is.is_sum;
    longest = λ n other fits begins o.
        (let P : List ℕ → Type 0 = λ xs. IsSumOf limits.depth xs other in
        elim (cases_lt (length bytes) n) [
          | inl more ↦ (let m = n - length bytes in
              let k : n ≡ length bytes + m = omega (arith, more) in
              let e : take n (bytes ++ rest) ≡ bytes ++ take m rest = ap (λ i. take i (bytes ++ rest)) k ∙ take-append-add bytes rest m in
              absurd (never (take m rest) other (omega (arith, k, fits, length-append bytes (take m rest), length-take m rest)) begins (subst P e o)))
          | inr few ↦ is.longest n other fits begins (subst P (take-append-le n bytes rest few) o)
        ]);
  }

  viable_there : (more : List ℕ) (other : FeatureSum) → other.begin ≡ begin → IsSumOf limits.depth (bytes ++ more) other
      → (15 ≤ begin) × IsViableWithin limits.depth (stand_at begin ++ bytes)
  viable_there more other begins o =
      let r : IsRun limits.depth begin (bytes ++ more) = subst (λ b. IsRun limits.depth b (bytes ++ more)) begins o.is_run in
      (r.room, viable_before limits.depth (stand_at begin) bytes more r.ends.viable)

  over_fault : (fault : JsonFault) → Answers limits (stand_at begin ++ bytes) (Refused fault) → IsOver limits begin bytes
  over_fault fault shows = over_by (λ more other fits begins o.
      (let v = viable_there more other begins o in
      let room : length (stand_at begin ++ bytes) ≤ limits.bytes =
      omega (arith, length-append (stand_at begin) bytes, stand_length begin v.0, length-append bytes more, fits) in
      never_open fault (not_refused limits (stand_at begin ++ bytes) (Refused fault) v.1 room shows)))

  pub over_refused : (progress : Progress) → IsSome (refusal_in progress) → Answers limits (stand_at begin ++ bytes) progress → IsOver limits begin bytes
  over_refused Open some shows = absurd (never_some some)
  over_refused (Refused fault) some shows = over_fault fault shows

  pub over_ended : limits.bytes ≤ 2 ^ 60 → (ended : Bool) → IsTrue ended → ((rest : List ℕ) (text : Text)
      → IsTextWithin limits.depth text (stand_at begin ++ (bytes ++ rest)) → begin + length bytes ≤ limits.bytes → length (all_events text) < 2 ^ 63
      → IsTrue ended ↔ IsSome (least_found (drop 1 (findings_by (begin + length bytes) text)))) → IsOver limits begin bytes
  over_ended short ended is told = over_by (λ more other fits begins o.
      (let run = bytes ++ more in
      let n = begin + length bytes in
      let r : IsRun limits.depth begin run = subst (λ b. IsRun limits.depth b run) begins o.is_run in
      let f = found_in limits.depth begin run o.found r (subst (λ b. AreFindingsOf b run o.found) begins o.findings) in
      let sound : Sound f.trees = sound_trees 1 f.trees (subst (λ fs. AllByRecursion (λ finding. finding.fault ≡ None) fs) f.are o.sound) in
      let k = closed_run begin run f.trees r.room f.reads in
      let text_of : IsText k.text (stand_at begin ++ (bytes ++ (more ++ stand_end))) =
      subst (λ xs. IsText k.text (stand_at begin ++ xs)) (append_assoc bytes more stand_end) k.text_of in
      let few = EventCount.text_few k.text (stand_at begin ++ (run ++ stand_end)) k.text_of in
      let some = (told (more ++ stand_end) k.text (text_of, k.deep limits.depth r.ends.viable) (omega (arith, fits, length-append bytes more))
      (omega (arith, few, length-append (stand_at begin) (run ++ stand_end), stand_length begin r.room, length-append run stand_end, fits, short))).0 is in
      let all : complete_in n (stand_element begin ∷ f.trees) ≡ stand_element begin ∷ complete_in n f.trees =
      complete_first n (stand_element begin) f.trees (omega (arith, stand_ends begin r.room)) in
      let none : least_found (drop 1 (findings_by n k.text)) ≡ None =
      ap (λ vs. least_found (drop 1 (findings_from 0 (complete_in n vs)))) k.features ∙ ap (λ vs. least_found (drop 1 (findings_from 0 vs))) all
      ∙ none_least 1 n f.trees sound in
      let P : Option Fault → Type 0 = λ o. IsSome o in
      let never : false ≡ true = subst P none some in
      cc))

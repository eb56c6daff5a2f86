-- What is kept of the last feature that was reported, and where features have ended.
use Rattle.std.proofs.Common.{◌≡◌, ◌⊎◌, ◌↔◌, ℕ, zero, suc, ◌+◌, ◌^◌, ◌<◌, ◌≤◌, inl, inr, List, [], ◌∷◌, ◌++◌, length, take, is_some, true, Option, Some, None, refl, sym, ap, subst, ◌∙◌, arith}
use Rattle.std.proofs.lemmas.List.{take_all}
use Rattle.gj_json.specs.Events.{all_events}
use Rattle.gj_json.specs.Text.{IsTextWithin, IsViableWithin}
use Rattle.gj_json.specs.Tree.{Tree, array, object, Text}
use Rattle.gj_json.proofs.Readers.ReadBytes.{well_of, well_viable}
use Rattle.gj_rules.specs.declared.feature.Feature.{Feature}
use Rattle.gj_rules.specs.declared.feature_linter.FeatureLinter.{FeatureLinter}
use Rattle.gj_rules.specs.FeatureFindings.{closing_of, complete_at, complete_in, features_of, findings_by, findings_from}
use Rattle.gj_rules.specs.FeatureLinter.{StandsFor, limits_of, offset_of, refusal_of, sink_of}
use Rattle.gj_rules.specs.FeaturesTold.{SayFindings, TellFindings}
use Rattle.gj_join.specs.declared.last_end.LastEnd.{LastEnd}
use Rattle.gj_join.specs.Internal.PassedRuns.{EndsAt, Tells, last_close}
use Rattle.gj_join.specs.Runs.{StandsAfterFeature}
use Rattle.gj_join.proofs.ElementRuns.{ItEnds, OneOf}
use Rattle.gj_join.proofs.EndedFeatures.{ended_by}
use Rattle.gj_join.proofs.FeatureOrder.{Rising, bracket_complete, complete_first, complete_none, rising_features, rising_to}
use Rattle.gj_join.proofs.FeatureStates.{one_of}
use Rattle.gj_join.proofs.RunsRead.{one_ends}
use Rattle.gj_join.proofs.ToldTexts.{SinkTells, ToldText, told_text}

pub closes_last : (close : Option ℕ) (features : List Feature) (feature : Feature) → feature.close ≡ last_close close (features ++ feature ∷ [])
closes_last close [] feature = refl
closes_last close (f ∷ fs) feature = closes_last f.close fs feature

-- ---- of values

closed : (c : ℕ) (v : Tree) → closing_of v ≡ Some c → ItEnds (suc c) v
closed c (array place es close) e = (refl, (let f : close ≡ c = cc in omega (arith, f)))
closed c (object place ms close) e = (refl, (let f : close ≡ c = cc in omega (arith, f)))
closed c other e = absurd (let f : None ≡ Some c = e in cc)

closing_is : (c : ℕ) (v : Tree) → ItEnds (suc c) v → closing_of v ≡ Some c
closing_is c (array place es close) i = let f : close ≡ c = omega (arith, i.1) in ap Some f
closing_is c (object place ms close) i = let f : close ≡ c = omega (arith, i.1) in ap Some f
closing_is c other i = let s : is_some (closing_of other) ≡ true = i.0 in cc

-- ---- of what is found

closed_found : (c : ℕ) (close : Option ℕ) (i : ℕ) (vs : List Tree) (features : List Feature) → SayFindings features (findings_from i vs)
    → last_close close features ≡ Some c → (close ≡ Some c) ⊎ OneOf (suc c) vs
closed_found c close i [] [] h e = inl e
closed_found c close i [] (f ∷ fs) h e = absurd h
closed_found c close i (v ∷ vs) [] h e = absurd h
closed_found c close i (v ∷ vs) (f ∷ fs) h e = elim (closed_found c f.close (i + 1) vs fs h.1 e) [
  | inl k ↦ inr (inl (closed c v (sym h.0.2 ∙ k)))
  | inr one ↦ inr (inr one)
]

none_complete : (n : ℕ) (vs : List Tree) → Rising n vs → complete_in n vs ≡ []
none_complete n [] r = refl
none_complete n (v ∷ vs) r = complete_none n v vs r.0

-- one that ends with these bytes is the last that is complete in them
found_closed : (c before : ℕ) (close : Option ℕ) (i : ℕ) (vs : List Tree) (features : List Feature) → Rising before vs → OneOf (suc c) vs
    → SayFindings features (findings_from i (complete_in (suc c) vs)) → last_close close features ≡ Some c
found_closed c before close i [] features r one h = absurd one
found_closed c before close i (v ∷ vs) features r (inl k) h =
    let n = suc c in
    let e = bracket_complete n v k in
    let none : complete_in n vs ≡ [] = none_complete n vs (subst (λ m. Rising m vs) e r.1) in
    let all : complete_in n (v ∷ vs) ≡ v ∷ [] = complete_first n v vs (omega (arith, e)) ∙ ap (λ ws. v ∷ ws) none in
    last features (subst (λ ws. SayFindings features (findings_from i ws)) all h)
  where
    last : (features : List Feature) → SayFindings features (findings_from i (v ∷ [])) → last_close close features ≡ Some c
    last [] h = absurd h
    last (f ∷ []) h = h.0.2 ∙ closing_is c v k
    last (f ∷ (g ∷ fs)) h = absurd h.1
found_closed c before close i (v ∷ vs) features r (inr one) h =
    let n = suc c in
    let all : complete_in n (v ∷ vs) ≡ v ∷ complete_in n vs = complete_first n v vs (omega (arith, rising_to _ n vs r.1 one)) in
    later (λ close features k. found_closed c (complete_at v) close (i + 1) vs features r.1 one k) features
    (subst (λ ws. SayFindings features (findings_from i ws)) all h)
  where
    later : ((close : Option ℕ) (features : List Feature) → SayFindings features (findings_from (i + 1) (complete_in (suc c) vs))
        → last_close close features ≡ Some c) → (features : List Feature) → SayFindings features (findings_from i (v ∷ complete_in (suc c) vs))
        → last_close close features ≡ Some c
    later on [] h = absurd h
    later on (f ∷ fs) h = on f.close fs h.1

-- ---- of a linter

-- it was fed these bytes and refused none
pub record Live (linter : FeatureLinter LastEnd) (bytes : List ℕ) : Type 0 where
  pub viable : IsViableWithin (limits_of linter).depth bytes
  pub at : offset_of linter ≡ length bytes
  pub within : length bytes ≤ (limits_of linter).bytes

pub live : (linter : FeatureLinter LastEnd) (bytes : List ℕ) → refusal_of linter ≡ None → StandsFor Tells linter bytes → Live linter bytes
unfolding StandsFor
live linter bytes fine h =
    let w = well_of linter.reader bytes fine h.0 in
    record { viable = well_viable _ bytes w.state w.runs w.fits; at = w.at; within = omega (arith, w.at, w.within) }

ends_there : (linter : FeatureLinter LastEnd) (bytes : List ℕ) → refusal_of linter ≡ None → StandsFor Tells linter bytes → SinkTells Tells linter bytes
    → EndsAt (sink_of linter).close (offset_of linter) ↔ StandsAfterFeature (limits_of linter).depth bytes
ends_there linter bytes fine h tells = (λ k. there (sink_of linter).close refl k, λ k. here (length bytes) refl k)
  where
    k : Live linter bytes
    k = live linter bytes fine h

    t : ToldText Tells linter bytes
    t = told_text Tells linter bytes h tells

    all : take (offset_of linter) bytes ≡ bytes
    all = take_all (offset_of linter) bytes (omega (arith, k.at))

    text_of : IsTextWithin (limits_of linter).depth t.text (bytes ++ t.rest)
    text_of = subst (λ taken. IsTextWithin (limits_of linter).depth t.text (taken ++ t.rest)) all t.text_of

    features : List Tree
    features = features_of t.text.value

    there : (close : Option ℕ) → (sink_of linter).close ≡ close → EndsAt close (offset_of linter) → StandsAfterFeature (limits_of linter).depth bytes
    there None e ends = absurd ends
    there (Some c) e ends =
        let n = offset_of linter in
        elim (closed_found c None 0 (complete_in n features) t.tells.0 t.tells.2 (sym t.tells.1 ∙ e)) [
          | inl f ↦ absurd (let g : None ≡ Some c = f in cc)
          | inr one ↦ ended_by (limits_of linter).depth bytes t.rest t.text n text_of
              (one_ends (length bytes) 0 (complete_in n features) (subst (λ m. OneOf m (complete_in n features)) (ends ∙ k.at) one))
        ]

    here : (n : ℕ) → length bytes ≡ n → StandsAfterFeature (limits_of linter).depth bytes → EndsAt (sink_of linter).close (offset_of linter)
    here n e ended =
        let one : OneOf n features = subst (λ m. OneOf m features) e (one_of (length bytes) 0 features (ended.ends t.rest t.text text_of.0)) in
        let rising = rising_features t.text (bytes ++ t.rest) text_of.0 in
        by n e one rising
      where
        by : (n : ℕ) → length bytes ≡ n → OneOf n features → Rising 0 features → EndsAt (sink_of linter).close (offset_of linter)
        by zero e one rising = absurd (omega (arith, rising_to 0 0 features rising one))
        by (suc c) e one rising =
            let at : offset_of linter ≡ suc c = k.at ∙ e in
            let says : SayFindings t.tells.0 (findings_from 0 (complete_in (suc c) features)) =
            subst (λ m. SayFindings t.tells.0 (findings_from 0 (complete_in m features))) at t.tells.2 in
            let last : (sink_of linter).close ≡ Some c = t.tells.1 ∙ found_closed c 0 None 0 features t.tells.0 rising one says in
            subst (λ close. EndsAt close (offset_of linter)) (sym last) (sym at)

pub ends_by : (linter : FeatureLinter LastEnd) (bytes : List ℕ) (sink : LastEnd) (place : ℕ) → sink ≡ sink_of linter → place ≡ offset_of linter
    → refusal_of linter ≡ None → StandsFor Tells linter bytes
    → ((rest : List ℕ) (text : Text) → IsTextWithin (limits_of linter).depth text (take (offset_of linter) bytes ++ rest)
    → length (all_events text) < 2 ^ 63 → TellFindings (Tells sink) (findings_by (offset_of linter) text))
    → EndsAt sink.close place ↔ StandsAfterFeature (limits_of linter).depth bytes
ends_by linter bytes sink place same at fine h tells =
    rw (same, at)
    (ends_there linter bytes fine h
    (λ rest text t few. subst (λ told. TellFindings (Tells told) (findings_by (offset_of linter) text)) same (tells rest text t few)))

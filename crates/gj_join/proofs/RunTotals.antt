-- What the totals are of the features of a text that begins with the stand.
use Rattle.std.proofs.Common.{◌≡◌, ◌==◌, ℕ, ◌+◌, ◌≤◌, Bool, true, false, if◌then◌else◌, List, [], ◌∷◌, ◌++◌, length, Option, Some, None, IsSome, nat_le, refl, sym, ap, subst, ◌∙◌, arith}
use Rattle.std.specs.List.{AllByRecursion}
use Rattle.std.specs.Option.{unwrap_or}
use Rattle.std.proofs.lemmas.Bool.Decides.{nat_tests}
use Rattle.gj_json.specs.declared.constant.Constant.TheVariants.{Null}
use Rattle.gj_json.specs.Tree.{Tree, constant, number, string, array, object}
use Rattle.gj_coords.specs.declared.fault.Fault.{Fault}
use Rattle.gj_coords.specs.declared.fault.Rule.TheVariants.{G1}
use Rattle.gj_coords.specs.Fault.{fault_at, least}
use Rattle.gj_coords.specs.Internal.KeptWarnings.{joined, warnings_of}
use Rattle.gj_coords.specs.Internal.WarningLaws.{joined_assoc, joined_none_last, warnings_of-append, warnings_of_none}
use Rattle.gj_rules.specs.declared.feature.Feature.{Feature}
use Rattle.gj_rules.specs.declared.role.Role.{Role}
use Rattle.gj_rules.specs.Faults.{faults}
use Rattle.gj_rules.specs.FeatureFindings.{closing_of, complete_at, complete_in, end_of, finding_of, findings_from, unless_broken}
use Rattle.gj_rules.specs.FeaturesTold.{SayFindings, SaysFinding}
use Rattle.gj_rules.specs.TextWarnings.{warnings}
use Rattle.gj_join.specs.Internal.Totals.{IsTotalOf, none_yet, with_feature, with_features, with_next}
use Rattle.gj_join.specs.declared.totals.Totals.{Totals}
use Rattle.gj_join.proofs.ElementRuns.{Within, last_of}
use Rattle.gj_join.proofs.SoundElements.{Sound, warned}

pub with_one : (totals : Totals) (features : List Feature) (feature : Feature)
    → with_features totals (features ++ feature ∷ []) ≡ with_feature (with_features totals features) feature
with_one totals [] feature = refl
with_one totals (other ∷ more) feature = with_one (with_feature totals other) more feature

-- one feature more
pub told_one : (old new : Totals) (features : List Feature) (feature : Feature) → IsTotalOf old features → with_feature old feature ≡ new
    → IsTotalOf new (features ++ feature ∷ [])
told_one old new features feature h e = sym e ∙ ap (λ t. with_feature t feature) h ∙ sym (with_one none_yet features feature)

stays : (totals : Totals) (features : List Feature) → totals.is_sound ≡ false → with_features totals features ≡ totals
stays totals [] e = refl
stays totals (feature ∷ more) e =
    let f : with_feature totals feature ≡ totals = rw e refl in
    ap (λ t. with_features t more) f ∙ stays totals more e

-- ---- elements without a fault

abbrev pub fault_of : Tree → Option Fault
fault_of v = least (faults Role.Feature v)

-- they are objects
pub sound_closes : (v : Tree) → fault_of v ≡ None → IsSome (closing_of v)
sound_closes (object place members close) e = refl
sound_closes (array place elements close) e = refl
sound_closes (constant Null place) e = let f : Some (fault_at place G1) ≡ None = e in cc
sound_closes (constant other place) e = let f : Some (fault_at place G1) ≡ None = e in cc
sound_closes (number place literal end) e = let f : Some (fault_at place G1) ≡ None = e in cc
sound_closes (string place content end) e = let f : Some (fault_at place G1) ≡ None = e in cc

-- the first of these has a fault
abbrev pub Stops : List Tree → Type 0
Stops [] = Unit {0}
Stops (v ∷ vs) = fault_of v ≡ None → ⊥

-- no more of them can be sound
pub fewer : (xs ys us others : List Tree) → xs ++ ys ≡ us ++ others → Sound xs → Stops others → length xs ≤ length us
fewer [] ys us others e s stop = omega arith
fewer (x ∷ xs) ys [] [] e s stop = cc
fewer (x ∷ xs) ys [] (v ∷ others) e s stop = let f : x ≡ v = cc in let P : Tree → Type 0 = λ t. fault_of t ≡ None in absurd (stop (subst P f s.0))
fewer (x ∷ xs) ys (u ∷ us) others e s stop = let f : xs ++ ys ≡ us ++ others = cc in let l = fewer xs ys us others f s.1 stop in omega arith

-- ---- what is counted

abbrev pub close_after : ℕ → List Tree → ℕ
close_after close [] = close
close_after close (v ∷ vs) = close_after (unwrap_or (closing_of v) 0) vs

abbrev pub is_none : List Tree → Bool
is_none [] = true
is_none (v ∷ vs) = false

pub record Counted (from : Totals) (vs : List Tree) (totals : Totals) : Type 0 where
  pub us : List Tree
  pub others : List Tree
  pub split : vs ≡ us ++ others
  pub sound : Sound us
  pub stops : Stops others
  pub sound_is : totals.is_sound ≡ is_none others
  pub features : totals.features ≡ from.features + length us
  pub close : totals.close ≡ close_after from.close us
  pub warned_are : totals.warnings ≡ joined from.warnings (warnings_of (warned us))

none_counted : (from totals : Totals) (vs : List Tree) → Stops vs → totals.is_sound ≡ is_none vs → totals.features ≡ from.features → totals.close ≡ from.close
    → totals.warnings ≡ from.warnings → Counted from vs totals
none_counted from totals vs stop a e f g = record {
  us = [];
  others = vs;
  split = refl;
  sound = tt;
  stops = stop;
  sound_is = a;
  features = omega arith;
  close = f;
  warned_are = g ∙ sym (ap (joined from.warnings) warnings_of_none ∙ joined_none_last from.warnings);
}

pub counted : (i : ℕ) (vs : List Tree) (features : List Feature) (from : Totals) → from.is_sound ≡ true → from.features ≡ i
    → SayFindings features (findings_from (i + 1) vs) → Counted from vs (with_features from features)
counted i [] [] from sound e h = none_counted from from [] tt sound refl refl refl
counted i [] (feature ∷ more) from sound e h = absurd h
counted i (v ∷ vs) [] from sound e h = absurd h
counted i (v ∷ vs) (feature ∷ more) from sound e h = go (λ to s f. counted (i + 1) vs more to s f h.1) feature.fault feature.close refl refl
  where
    says : SaysFinding feature (finding_of (i + 1) v)
    says = h.0

    next : (o : Option Fault) (c : Option ℕ) → feature.fault ≡ o → feature.close ≡ c → with_feature from feature ≡ with_next o c feature from
    next o c f g = rw (sound, f, g) refl

    ended : (totals : Totals) → with_feature from feature ≡ totals → totals.is_sound ≡ false → totals.features ≡ from.features
        → totals.close ≡ from.close → totals.warnings ≡ from.warnings → (fault_of v ≡ None → ⊥) → Counted from (v ∷ vs) (with_features from (feature ∷ more))
    ended totals f stop a b w never =
        let k : with_features from (feature ∷ more) ≡ totals = ap (λ t. with_features t more) f ∙ stays totals more stop in
        subst (Counted from (v ∷ vs)) (sym k) (none_counted from totals (v ∷ vs) never stop a b w)

    late : (feature.index == 0) ≡ false
    late = let l : feature.index ≡ i + 1 = says.0 in grind (arith, nat_tests)

    go : ((to : Totals) → to.is_sound ≡ true → to.features ≡ i + 1 → Counted to vs (with_features to more)) → (o : Option Fault) (c : Option ℕ)
        → feature.fault ≡ o → feature.close ≡ c → Counted from (v ∷ vs) (with_features from (feature ∷ more))
    go on (Some fault) c f g =
        ended (with_next (Some fault) c feature from) (next (Some fault) c f g) late refl refl refl
        (λ k. let n : None ≡ Some fault = sym k ∙ sym says.4 ∙ f in cc)
    go on None None f g =
        ended (with_next None None feature from) (next None None f g) late refl refl refl
        (λ k. let s = sound_closes v k in let n : closing_of v ≡ None = sym says.2 ∙ g in let P : Option ℕ → Type 0 = λ o. IsSome o in let t : false ≡ true = subst P n s in cc)
    go on None (Some close) f g =
        let to = with_next None (Some close) feature from in
        let r = on to refl says.0 in
        let fault : fault_of v ≡ None = sym says.4 ∙ f in
        let closes : close ≡ unwrap_or (closing_of v) 0 = ap (λ o. unwrap_or o 0) (sym g ∙ says.2) in
        let one : feature.warnings ≡ warnings_of (unless_broken (fault_of v) (warnings Role.Feature v)) = says.5 in
        subst (Counted from (v ∷ vs)) (ap (λ t. with_features t more) (sym (next None (Some close) f g)))
        (record {
          us = v ∷ r.us;
          others = r.others;
          split = ap (λ xs. v ∷ xs) r.split;
          sound = (fault, r.sound);
          stops = r.stops;
          sound_is = r.sound_is;
          features = omega (arith, r.features, says.0);
          close = r.close ∙ ap (λ n. close_after n r.us) closes;
          warned_are =
              r.warned_are ∙ joined_assoc from.warnings feature.warnings (warnings_of (warned r.us))
              ∙ ap (λ w. joined from.warnings (joined w (warnings_of (warned r.us)))) one
              ∙ ap (joined from.warnings) (sym (warnings_of-append (unless_broken (fault_of v) (warnings Role.Feature v)) (warned r.us)));
        })

-- where the last of some elements without a fault ends
pub close_is : (t : Tree) (us : List Tree) (close : ℕ) → IsSome (closing_of t) → close ≡ unwrap_or (closing_of t) 0 → Sound us
    → (close_after close us + 1 ≡ end_of (last_of t us)) × IsSome (closing_of (last_of t us))
close_is (object place members end) [] close s e sound = (omega arith, s)
close_is (array place elements end) [] close s e sound = (omega arith, s)
close_is (constant which place) [] close s e sound = cc
close_is (number place literal end) [] close s e sound = cc
close_is (string place content end) [] close s e sound = cc
close_is t (u ∷ us) close s e sound = close_is u us (unwrap_or (closing_of u) 0) (sound_closes u sound.0) refl sound.1

-- ---- which features are complete

pub complete_first : (n : ℕ) (vs : List Tree) → (later : List Tree) × (vs ≡ complete_in n vs ++ later)
complete_first n [] = ([], refl)
complete_first n (v ∷ vs) = split (nat_le (complete_at v) n) (complete_first n vs)
  where
    split : (b : Bool) → (later : List Tree) × (vs ≡ complete_in n vs ++ later)
        → (later : List Tree) × (v ∷ vs ≡ (if b then v ∷ complete_in n vs else []) ++ later)
    split true k = (k.0, ap (λ xs. v ∷ xs) k.1)
    split false k = (v ∷ vs, refl)

-- a value with a bracket is complete where it ends
pub bracket_complete : (v : Tree) → IsSome (closing_of v) → complete_at v ≡ end_of v
bracket_complete (number place literal end) s = cc
bracket_complete other s = refl

pub complete_sound : (n : ℕ) (vs more : List Tree) → Sound vs → Within n vs → complete_in n (vs ++ more) ≡ vs ++ complete_in n more
complete_sound n [] more s w = refl
complete_sound n (v ∷ vs) more s w =
    let c = sound_closes v s.0 in
    let l : end_of v ≤ n = w.0 c in
    let f = bracket_complete v c in
    let g : nat_le (complete_at v) n ≡ true = grind (arith, nat_tests) in
    rw g (ap (λ xs. v ∷ xs) (complete_sound n vs more s.1 w.1))

pub complete_all : (n : ℕ) (vs : List Tree) → AllByRecursion (λ v. complete_at v ≤ n) (complete_in n vs)
complete_all n [] = tt
complete_all n (v ∷ vs) = split (nat_le (complete_at v) n) refl (complete_all n vs)
  where
    split : (b : Bool) → nat_le (complete_at v) n ≡ b → AllByRecursion (λ v. complete_at v ≤ n) (complete_in n vs)
        → AllByRecursion (λ v. complete_at v ≤ n) (if b then v ∷ complete_in n vs else [])
    split true e k = (let l : complete_at v ≤ n = grind (arith, nat_tests) in l, k)
    split false e k = tt

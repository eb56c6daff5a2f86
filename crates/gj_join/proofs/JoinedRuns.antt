-- A text of which runs are passed over, as it goes on.
use Rattle.std.proofs.Common.{◌≡◌, ◌↔◌, ℕ, zero, suc, ◌+◌, ◌≤◌, ◌==◌, Bool, true, false, IsTrue, List, [], ◌∷◌, ◌++◌, length, Option, Some, None, refl, sym, ap, subst, ◌∙◌, arith, append_assoc, append-nil}
use Rattle.std.proofs.lemmas.Bool.Decides.{nat_tests}
use Rattle.std.proofs.lemmas.List.{length-append, length-replicate}
use Rattle.gj_json.specs.declared.fault.JsonFault.{JsonFault}
use Rattle.gj_json.specs.Broken.{Broken, SpellsBroken, in_array, value_done, begun}
use Rattle.gj_json.specs.BetweenTokens.{IsBetweenTokens}
use Rattle.gj_json.specs.Bytes.{space}
use Rattle.gj_json.specs.Internal.TextMachine.{run_from, text_due}
use Rattle.gj_json.specs.Limits.{Allowed}
use Rattle.gj_json.specs.Refusal.{IsRefusal}
use Rattle.gj_json.specs.Text.{IsViableWithin}
use Rattle.gj_json.proofs.Machine.SpelledSteps.{spelled}
use Rattle.gj_json.proofs.Machine.ValuePaths.{run_from-append}
use Rattle.gj_coords.specs.Internal.KeptWarnings.{joined, no_warnings}
use Rattle.gj_coords.specs.Internal.WarningLaws.{joined_assoc, joined_none_last}
use Rattle.gj_coords.specs.declared.warnings.Warnings.{Warnings}
use Rattle.gj_rules.specs.declared.verdict.Verdict.{Verdict}
use Rattle.gj_rules.specs.declared.verdict.Verdict.TheVariants.{Valid, NotJson}
use Rattle.gj_rules.specs.declared.linter.Progress.{Progress}
use Rattle.gj_rules.specs.declared.linter.Progress.TheVariants.{Open, Refused}
use Rattle.gj_rules.specs.Linter.{Answers}
use Rattle.gj_rules.specs.Verdict.{IsVerdict}
use Rattle.gj_join.specs.declared.sum.FeatureSum.{FeatureSum}
use Rattle.gj_join.specs.Internal.PassedRuns.{IsAfterElement, Joined, whole}
use Rattle.gj_join.specs.Runs.{StandsAfterFeature, IsRun, IsSumOf, spaces}
use Rattle.gj_join.proofs.AlikeEnds.{as_ends}
use Rattle.gj_join.proofs.FeatureStates.{feature_stands}
use Rattle.gj_join.proofs.RunsRead.{as_viable, run_after, spaces_read}
use Rattle.gj_join.proofs.WholeVerdicts.{whole_is}

-- ---- the machine after an element

pub after_element : (levels : ℕ) (bytes : List ℕ) → StandsAfterFeature levels bytes → IsAfterElement bytes
after_element levels bytes h =
    let k = feature_stands levels bytes h in
    record { marked = k.marked; place = k.around.place; done = k.stands.done; stack = _; value = k.stands.value; is = k.stands.is }

spaces_after : (bytes : List ℕ) (n : ℕ) → IsAfterElement bytes → IsAfterElement (bytes ++ spaces n)
spaces_after bytes n h = record {
  marked = h.marked;
  place = h.place;
  done = h.done;
  stack = h.stack;
  value = h.value;
  is = run_from-append bytes (spaces n) (Some text_due) 0 ∙ ap (λ o. run_from o (0 + length bytes) (spaces n)) h.is
      ∙ ((spaces_read (0 + length bytes) n).leads h.stack h.place h.done h.value).goes h.marked;
}

pub record SpaceMayFollow (bytes : List ℕ) : Type 0 where
  pub broken : Broken
  pub spelled_so : SpellsBroken broken bytes
  pub between : IsBetweenTokens broken

pub space_may_follow : (bytes : List ℕ) → IsAfterElement bytes → SpaceMayFollow bytes
space_may_follow bytes h =
    let s = begun h.marked (record { stack = in_array h.place h.done ∷ h.stack; leaf = value_done h.value }) in
    record { broken = s; spelled_so = spelled bytes s h.is; between = tt }

-- ---- verdicts

whole_none : (rest : Verdict) (none : Warnings) → none ≡ no_warnings → whole rest none ≡ rest
whole_none (Valid told) none e = ap (λ x. Valid (joined told x)) e ∙ ap Valid (joined_none_last told)
whole_none other none e = refl

whole_more : (rest : Verdict) (a b : Warnings) → whole (whole rest a) b ≡ whole rest (joined a b)
whole_more (Valid told) a b = ap Valid (joined_assoc told a b)
whole_more other a b = refl

-- ---- before the first byte

none_ended : (levels : ℕ) → StandsAfterFeature levels [] → ⊥
none_ended levels h = go (after_element levels [] h)
  where
    go : IsAfterElement [] → ⊥
    go h = let e = h.is in cc

pub begun_joined : (limits : Allowed) (refusal : Option JsonFault) (none : Warnings) → none ≡ no_warnings → Joined limits refusal none false [] []
begun_joined limits refusal none e = record {
  long = refl;
  viable = λ after v. v;
  verdicts = λ after rest v. subst (IsVerdict limits after) (sym (whole_none rest none e)) v;
  ends = λ byte after. (λ h. h, λ h. h);
  here = λ h. absurd (let f : false ≡ true = h in cc);
  always = λ o h. absurd (none_ended limits.depth h);
}

-- ---- more bytes

-- where nothing was refused, after this piece
abbrev pub IsFed : Allowed → Option JsonFault → Bool → Bool → List ℕ → List ℕ → Type 0
IsFed limits old was is white [] = (old ≡ None) × (is ≡ was)
IsFed limits old was is white (byte ∷ more) = IsTrue is ↔ StandsAfterFeature limits.depth (white ++ byte ∷ more)

pub fed : {limits : Allowed} {old new : Option JsonFault} {warnings : Warnings} {was is : Bool} {white bytes : List ℕ} (piece : List ℕ)
    → Joined limits old warnings was white bytes → (new ≡ None → IsFed limits old was is white piece) × (IsTrue is → new ≡ None)
    → Joined limits new warnings is (white ++ piece) (bytes ++ piece)
fed {limits} {old} {new} {warnings} {was} {is} {white} {bytes} piece h k = record {
  long = omega (arith, h.long, length-append white piece, length-append bytes piece);
  viable = λ after v. on_bytes (IsViableWithin limits.depth) after (h.viable (piece ++ after) (on_white (IsViableWithin limits.depth) after v));
  verdicts = λ after rest v.
      on_bytes (λ xs. IsVerdict limits xs (whole rest warnings)) after
      (h.verdicts (piece ++ after) rest (on_white (λ xs. IsVerdict limits xs rest) after v));
  ends = λ byte after. ends piece byte after;
  here = λ t. (let e = here piece (k.0 (k.1 t)) t in (k.1 t, e.0, e.1));
  always = λ o e. always piece (k.0 o) e;
}
  where
    on_bytes : (P : List ℕ → Type 0) (after : List ℕ) → P (bytes ++ (piece ++ after)) → P ((bytes ++ piece) ++ after)
    on_bytes P after p = subst P (sym (append_assoc bytes piece after)) p

    on_white : (P : List ℕ → Type 0) (after : List ℕ) → P ((white ++ piece) ++ after) → P (white ++ (piece ++ after))
    on_white P after p = subst P (append_assoc white piece after) p

    Ends : List ℕ → Type 0
    Ends xs = StandsAfterFeature limits.depth xs

    ends : (given : List ℕ) (byte : ℕ) (after : List ℕ) → Ends ((white ++ given) ++ byte ∷ after) ↔ Ends ((bytes ++ given) ++ byte ∷ after)
    ends [] byte after = rw (append-nil white, append-nil bytes) (h.ends byte after)
    ends (b ∷ given) byte after =
        rw (append_assoc white (b ∷ given) (byte ∷ after), append_assoc bytes (b ∷ given) (byte ∷ after)) (h.ends b (given ++ byte ∷ after))

    here : (given : List ℕ) → IsFed limits old was is white given → IsTrue is → Ends (bytes ++ given) × IsAfterElement (white ++ given)
    here [] f t = let e = h.here (subst IsTrue f.1 t) in (rw (append-nil bytes) e.1, rw (append-nil white) e.2)
    here (b ∷ more) f t = let e = f.0 t in ((h.ends b more).0 e, after_element limits.depth (white ++ b ∷ more) e)

    always : (given : List ℕ) → IsFed limits old was is white given → Ends (bytes ++ given) → IsTrue is
    always [] f e = subst IsTrue (sym f.1) (h.always f.0 (rw (append-nil bytes) at e))
    always (b ∷ more) f e = f.1 ((h.ends b more).1 e)

pub fed_none : (limits : Allowed) (old : Option JsonFault) (was is : Bool) (white piece : List ℕ) (progress : Progress) → true ≡ (length piece == 0)
    → ((fault : JsonFault) → old ≡ Some fault → progress ≡ Refused fault) → progress ≡ Open → is ≡ was → IsFed limits old was is white piece
fed_none limits old was is white [] progress e again fine same = (live old again, same)
  where
    live : (o : Option JsonFault) → ((fault : JsonFault) → o ≡ Some fault → progress ≡ Refused fault) → o ≡ None
    live None again = refl
    live (Some fault) again = let f = sym (again fault refl) ∙ fine in cc
fed_none limits old was is white (b ∷ more) progress e again fine same = absurd (grind (arith, nat_tests))

pub fed_some : (limits : Allowed) (old : Option JsonFault) (was is : Bool) (white piece : List ℕ) → false ≡ (length piece == 0)
    → IsTrue is ↔ StandsAfterFeature limits.depth (white ++ piece) → IsFed limits old was is white piece
fed_some limits old was is white [] e k = absurd (grind (arith, nat_tests))
fed_some limits old was is white (b ∷ more) e k = k

pub answers_on : {limits : Allowed} {refusal : Option JsonFault} {warnings : Warnings} {is : Bool} {white bytes : List ℕ} (piece : List ℕ) (progress : Progress)
    → Joined limits refusal warnings is white bytes → Answers limits (white ++ piece) progress → Answers limits (bytes ++ piece) progress
answers_on {white} {bytes} piece Open h a = (h.viable piece a.0, omega (arith, a.1, h.long, length-append white piece, length-append bytes piece))
answers_on {limits} {white = white} {bytes} piece (Refused fault) h a = λ more.
    subst (λ xs. IsRefusal limits xs fault) (sym (append_assoc bytes piece more))
    (h.verdicts (piece ++ more) (NotJson fault) (subst (λ xs. IsRefusal limits xs fault) (append_assoc white piece more) (a more)))

-- ---- a run

pub passed : {limits : Allowed} {refusal : Option JsonFault} {warnings : Warnings} {is : Bool} {white bytes : List ℕ} (more : List ℕ) (sum : FeatureSum)
    → Joined limits refusal warnings is white bytes → IsTrue is → length bytes ≡ sum.begin → IsSumOf limits.depth more sum
    → length (bytes ++ more) ≤ limits.bytes → Joined limits refusal (joined warnings sum.warnings) is (white ++ spaces (length more)) (bytes ++ more)
passed {limits} {refusal} {warnings} {is} {white} {bytes} more sum h t e s room =
    let (o, ended, element) = h.here t in
    let r = subst (λ n. IsRun limits.depth n more) (sym e) s.is_run in
    record {
      long = omega (arith, h.long, length-append white gap, length-append bytes more, length-replicate (length more) space);
      viable = λ after v.
          subst (IsViableWithin limits.depth) (sym (append_assoc bytes more after))
          ((as_viable limits.depth bytes more after ended r).0
          (h.viable (gap ++ after) (subst (IsViableWithin limits.depth) (append_assoc white gap after) v)));
      verdicts = λ after rest v.
          subst (λ xs. IsVerdict limits xs (whole rest (joined warnings sum.warnings))) (sym (append_assoc bytes more after))
          (subst (IsVerdict limits (bytes ++ (more ++ after))) (whole_more rest warnings sum.warnings)
          (whole_is limits bytes more after sum (whole rest warnings) e ended s room
          (h.verdicts (gap ++ after) rest (subst (λ xs. IsVerdict limits xs rest) (append_assoc white gap after) v))));
      ends = λ byte after.
          rw (append_assoc white gap (byte ∷ after), append_assoc bytes more (byte ∷ after))
          (let k = as_ends limits.depth bytes more byte after ended r in
          let j = in_gap (length more) byte after in
          (λ x. k.0 (j.0 x), λ x. j.1 (k.1 x)));
      here = λ u. (o, run_after limits.depth bytes more ended r, spaces_after white (length more) element);
      always = λ n k. t;
    }
  where
    gap : List ℕ
    gap = spaces (length more)

    in_gap : (n byte : ℕ) (after : List ℕ)
        → StandsAfterFeature limits.depth (white ++ (spaces n ++ byte ∷ after)) ↔ StandsAfterFeature limits.depth (bytes ++ (spaces n ++ byte ∷ after))
    in_gap zero byte after = h.ends byte after
    in_gap (suc n) byte after = h.ends space (spaces n ++ byte ∷ after)

-- ---- the end

pub ended_verdict : {limits : Allowed} {refusal : Option JsonFault} {warnings : Warnings} {is : Bool} {white bytes : List ℕ} (rest : Verdict)
    → Joined limits refusal warnings is white bytes → IsVerdict limits white rest → IsVerdict limits bytes (whole rest warnings)
ended_verdict {limits} {refusal} {warnings} {is} {white} {bytes} rest h v =
    subst (λ xs. IsVerdict limits xs (whole rest warnings)) (append-nil bytes)
    (h.verdicts [] rest (subst (λ xs. IsVerdict limits xs rest) (sym (append-nil white)) v))

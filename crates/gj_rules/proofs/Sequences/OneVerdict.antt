-- Records have one verdict together, and no other.
use Rattle.gj_rules.proofs.Common.{AllValid, Allowed, Bool, Broken, IsFirstFailing, IsJudgedBy, IsRecordVerdict, IsVerdict, List, NotJson, SeqVerdict}
use Rattle.gj_rules.proofs.Common.{SequenceRecord, Syntax, Valid, Verdict, Warnings, ap, arith, false, inl, inr, is_valid, length, not_json}
use Rattle.gj_rules.proofs.Common.{own_limits, record_end, refl, shifted_verdict, subst, suc, sym, true, [], ⊎_elim, ◌++◌, ◌+◌, ◌∙◌, ◌∷◌, ◌⊎◌}
use Rattle.std.proofs.Common.{◌≡◌, ℕ}
use Rattle.gj_coords.specs.Internal.KeptWarnings.{no_warnings, joined}

-- ---- some verdict

abbrev Judged : ℕ → List SequenceRecord → Type 0
Judged levels records = ((w : Warnings) × AllValid levels records w) ⊎ ((number : ℕ) × (verdict : Verdict) × IsFirstFailing levels records number verdict)

-- a valid record before the first that fails
pub failing_later : (levels : ℕ) (r : SequenceRecord) (more : List SequenceRecord) (x : Warnings) (number : ℕ) (verdict : Verdict)
    → IsRecordVerdict levels r (Valid x) → IsFirstFailing levels more number verdict → IsFirstFailing levels (r ∷ more) (number + 1) verdict
failing_later levels r more x number verdict h f =
    let n = f.counted in record {
      before = r ∷ f.before;
      failing = f.failing;
      after = f.after;
      split = ap (λ rs. r ∷ rs) f.split;
      counted = omega (arith, n);
      warnings = joined x f.warnings;
      valid = (x, f.warnings, h, f.valid, refl);
      verdict_of_it = f.verdict_of_it;
      fails = f.fails;
    }

pub failing_here : (levels : ℕ) (r : SequenceRecord) (more : List SequenceRecord) (verdict : Verdict) → IsRecordVerdict levels r verdict
    → is_valid verdict ≡ false → IsFirstFailing levels (r ∷ more) 1 verdict
failing_here levels r more verdict h f =
    record { before = []; failing = r; after = more; split = refl; counted = refl; warnings = no_warnings; valid = refl; verdict_of_it = h; fails = f }

module _ (some : (limits : Allowed) (bytes : List ℕ) → (verdict : Verdict) × IsVerdict limits bytes verdict) where
  judged_one : (levels : ℕ) (r : SequenceRecord) (more : List SequenceRecord) (verdict : Verdict) → IsRecordVerdict levels r verdict → Judged levels more
      → Judged levels (r ∷ more)
  judged_one levels r more (Valid x) h (inl a) = inl (joined x a.0, (x, a.0, h, a.1, refl))
  judged_one levels r more (Valid x) h (inr f) = inr (f.0 + 1, f.1, failing_later levels r more x f.0 f.1 h f.2)
  judged_one levels r more (Broken fault) h j = inr (1, Broken fault, failing_here levels r more (Broken fault) h refl)
  judged_one levels r more (NotJson fault) h j = inr (1, NotJson fault, failing_here levels r more (NotJson fault) h refl)

  judged_all : (levels : ℕ) (records : List SequenceRecord) → Judged levels records
  judged_all levels [] = inl (no_warnings, refl)
  judged_all levels (r ∷ more) =
      let own = some (own_limits levels r.bytes) r.bytes in
      judged_one levels r more (shifted_verdict r.start (record_end r.is_cut r.bytes own.0)) (own.0, own.1, refl) (judged_all levels more)

  pub some_sequence : (stray : Bool) (levels : ℕ) (records : List SequenceRecord) → (verdict : SeqVerdict) × IsJudgedBy stray levels records verdict
  some_sequence true levels records = (SeqVerdict.Record 0 (not_json 0 Syntax), refl)
  some_sequence false levels records =
      ⊎_elim (λ a. (SeqVerdict.Valid (length records) a.0, (a.1, refl))) (λ f. (SeqVerdict.Record f.0 f.1, f.2)) (judged_all levels records)

-- ---- and no other

module _ (one : (limits : Allowed) (bytes : List ℕ) (first second : Verdict) → IsVerdict limits bytes first → IsVerdict limits bytes second → first ≡ second)
  where
    record_one : (levels : ℕ) (r : SequenceRecord) (a b : Verdict) → IsRecordVerdict levels r a → IsRecordVerdict levels r b → a ≡ b
    record_one levels r a b h k =
        h.2 ∙ (ap (λ own. shifted_verdict r.start (record_end r.is_cut r.bytes own)) (one (own_limits levels r.bytes) r.bytes h.0 k.0 h.1 k.1) ∙ sym k.2)

    valid_one : (levels : ℕ) (r : SequenceRecord) (a b : Warnings) → IsRecordVerdict levels r (Valid a) → IsRecordVerdict levels r (Valid b) → a ≡ b
    valid_one levels r a b h k = let e = record_one levels r (Valid a) (Valid b) h k in cc

    valid_fails : (levels : ℕ) (r : SequenceRecord) (a : Warnings) (b : Verdict) → IsRecordVerdict levels r (Valid a) → IsRecordVerdict levels r b
        → is_valid b ≡ false → ⊥
    valid_fails levels r a b h k f = let e : true ≡ false = ap is_valid (record_one levels r (Valid a) b h k) ∙ f in cc

    all_one : (levels : ℕ) (records : List SequenceRecord) (a b : Warnings) → AllValid levels records a → AllValid levels records b → a ≡ b
    all_one levels [] a b h k = h ∙ sym k
    all_one levels (r ∷ more) a b h k =
        h.4 ∙ (ap (λ x. joined x h.1) (valid_one levels r h.0 k.0 h.2 k.2) ∙ (ap (joined k.0) (all_one levels more h.1 k.1 h.3 k.3) ∙ sym k.4))

    none_fails : (levels : ℕ) (before : List SequenceRecord) (r : SequenceRecord) (after : List SequenceRecord) (w : Warnings) (v : Verdict)
        → AllValid levels (before ++ r ∷ after) w → IsRecordVerdict levels r v → is_valid v ≡ false → ⊥
    none_fails levels [] r after w v h k f = valid_fails levels r h.0 v h.2 k f
    none_fails levels (x ∷ before) r after w v h k f = none_fails levels before r after h.1 v h.3 k f

    head_is : {x y : SequenceRecord} {xs ys : List SequenceRecord} → x ∷ xs ≡ y ∷ ys → x ≡ y
    head_is e = cc

    tail_is : {x y : SequenceRecord} {xs ys : List SequenceRecord} → x ∷ xs ≡ y ∷ ys → xs ≡ ys
    tail_is e = cc

    fails_one : (levels : ℕ) (before others : List SequenceRecord) (r s : SequenceRecord) (after rest : List SequenceRecord) (w x : Warnings) (a b : Verdict)
        → before ++ r ∷ after ≡ others ++ s ∷ rest
        → AllValid levels before w → AllValid levels others x → IsRecordVerdict levels r a → IsRecordVerdict levels s b → is_valid a ≡ false
        → is_valid b ≡ false
        → (length before ≡ length others) × (a ≡ b)
    fails_one levels [] [] r s after rest w x a b e h k p q f g =
        let P : SequenceRecord → Type 0 = λ t. IsRecordVerdict levels t b in (refl, record_one levels r a b p (subst P (sym (head_is e)) q))
    fails_one levels [] (y ∷ others) r s after rest w x a b e h k p q f g =
        let P : SequenceRecord → Type 0 = λ t. IsRecordVerdict levels t a in absurd (valid_fails levels y k.0 a k.2 (subst P (head_is e) p) f)
    fails_one levels (y ∷ before) [] r s after rest w x a b e h k p q f g =
        let P : SequenceRecord → Type 0 = λ t. IsRecordVerdict levels t b in absurd (valid_fails levels y h.0 b h.2 (subst P (sym (head_is e)) q) g)
    fails_one levels (y ∷ before) (z ∷ others) r s after rest w x a b e h k p q f g =
        let i = fails_one levels before others r s after rest h.1 k.1 a b (tail_is e) h.3 k.3 p q f g in (ap suc i.0, i.1)

    pub one_sequence : (stray : Bool) (levels : ℕ) (records : List SequenceRecord) (first second : SeqVerdict) → IsJudgedBy stray levels records first
        → IsJudgedBy stray levels records second → first ≡ second
    one_sequence true levels records first second h k = h ∙ sym k
    one_sequence false levels records (SeqVerdict.Valid n w) (SeqVerdict.Valid m x) h k =
        ap (λ c. SeqVerdict.Valid c w) (h.1 ∙ sym k.1) ∙ ap (SeqVerdict.Valid m) (all_one levels records w x h.0 k.0)
    one_sequence false levels records (SeqVerdict.Valid n w) (SeqVerdict.Record m v) h k =
        let A : List SequenceRecord → Type 0 = λ rs. AllValid levels rs w in
        absurd (none_fails levels k.before k.failing k.after w v (subst A k.split h.0) k.verdict_of_it k.fails)
    one_sequence false levels records (SeqVerdict.Record n v) (SeqVerdict.Valid m x) h k =
        let A : List SequenceRecord → Type 0 = λ rs. AllValid levels rs x in
        absurd (none_fails levels h.before h.failing h.after x v (subst A h.split k.0) h.verdict_of_it h.fails)
    one_sequence false levels records (SeqVerdict.Record n v) (SeqVerdict.Record m u) h k =
        let i = fails_one levels h.before k.before h.failing k.failing h.after k.after h.warnings k.warnings v u
        (sym h.split ∙ k.split) h.valid k.valid h.verdict_of_it k.verdict_of_it h.fails k.fails in
        ap (λ c. SeqVerdict.Record c v) (h.counted ∙ (ap (λ c. c + 1) i.0 ∙ sym k.counted)) ∙ ap (SeqVerdict.Record m) i.1

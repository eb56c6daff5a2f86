-- What a run that was read is of the text.
use Rattle.std.proofs.Common.{arith, ◌≡◌, ◌⊎◌, inl, inr, ◌+◌, ◌-◌, ◌<◌, ◌≤◌, ℕ, Bool, true, false, IsSome, IsTrue, ap, sym, subst, refl, ◌∙◌, List, [], ◌++◌, length, take, drop, codes, min, Some, None, Option}
use Rattle.std.specs.Prelude.{IfSome}
use Rattle.std.proofs.lemmas.Bool.{cases_lt}
use Rattle.std.proofs.lemmas.List.{take-take, take_all, length-append, length-take, length-drop, length-replicate}
use Rattle.gj_json.specs.Bytes.{space}
use Rattle.gj_json.specs.Limits.{Allowed}
use Rattle.gj_json.specs.Text.{IsViableWithin}
use Rattle.gj_rules.specs.Linter.{Answers, refusal_in}
use Rattle.gj_rules.specs.declared.linter.Progress.TheVariants.{Open}
use Rattle.gj_join.specs.RunLinter.{StandsFor, limits_of}
use Rattle.gj_join.specs.Runs.{IsSumOf, IsLongestSum, IsOver, MayBegin, spaces, stand_at}
use Rattle.gj_join.specs.declared.run_linter.RunLinter.{RunLinter}
use Rattle.gj_join.specs.declared.sum.FeatureSum.{FeatureSum}
use Rattle.geolint_report.specs.Every.{GaveBy}
use Rattle.file_parts.specs.Cuts.{bytes_between}
use Rattle.file_parts.specs.Internal.Reading.{IsReading}
use Rattle.file_parts.specs.ReadRuns.{IsEnough, ReadsTo}
use Rattle.file_parts.specs.Sums.{IsSumIn}
use Rattle.file_parts.specs.declared.collections.runs.ReadRun.{ReadRun}
use Rattle.file_parts.proofs.ReadBytes.{between_more, between_split, reached}

nothing_between : (text : List ℕ) (place : ℕ) → bytes_between place place text ≡ []
nothing_between text place =
    let none : place - place ≡ 0 = omega arith in
    ap (λ (n : ℕ). take n (drop place text)) none

-- ---- before the first byte

module _ (limits : Allowed) (linter : RunLinter) (begin enough : ℕ) (sum : FeatureSum) (may : MayBegin limits begin) (under : limits_of linter ≡ limits)
    (stands : StandsFor linter begin [])
    (sums : (b : ℕ) (bytes : List ℕ) → StandsFor linter b bytes → IsLongestSum (limits_of linter) b bytes sum) where
  none : IsLongestSum limits begin [] sum
  none = subst (λ (l : Allowed). IsLongestSum l begin [] sum) under (sums begin [] stands)

  stand_shows : Answers limits (stand_at begin ++ []) Open
  stand_shows =
      let v = none.is_sum.is_run.ends.viable in
      let P : ℕ → List ℕ → Type 0 = λ b l. IsViableWithin limits.depth (stand_at b ++ l) in
      let long : length (stand_at begin) ≡ begin =
      omega (arith, length-append (spaces (begin - 15)) (codes "{}"), length-replicate (begin - 15) space, may.0) in (
        subst (λ (l : List ℕ). P begin l) (take_all (sum.end - begin) [] (omega arith)) (subst (λ (b : ℕ). P b (take (sum.end - begin) [])) none.begins v),
        omega (arith, long, length-append (stand_at begin) [], may.1),
      )

  pub reading_none : (known : Option (List ℕ))
      → IfSome known (λ text. IsReading limits text linter begin enough true (record { sum = sum; reached = begin; progress = Open }))
  reading_none None = tt
  reading_none (Some text) =
      let P : List ℕ → Type 0 = λ l. StandsFor linter begin l × IsLongestSum limits begin l sum × Answers limits (stand_at begin ++ l) Open in
      let k = subst P (sym (nothing_between text begin)) (stands, none, stand_shows) in
      record {
        is_read = record { ordered = omega arith; within = λ less. absurd (omega (arith, less)); stands = k.0 };
        says = record { ordered = omega arith; longest = k.1; shows = k.2 };
        why = λ e. (let never : true ≡ false = e in cc);
      }

-- ---- after some more

module _ (limits : Allowed) (old new : RunLinter) (begin enough count taken : ℕ) (piece : List ℕ) (before after : ReadRun) (was is has_ended : Bool)
    (within : count ≤ length piece) (less : taken ≤ count) (on : after.reached ≡ before.reached + taken)
    (old_under : limits_of old ≡ limits) (new_under : limits_of new ≡ limits)
    (goes : (b : ℕ) (bytes : List ℕ) → StandsFor old b bytes → StandsFor new b (bytes ++ take taken piece))
    (shows : (b : ℕ) (bytes : List ℕ) → StandsFor old b bytes → Answers (limits_of old) (stand_at b ++ (bytes ++ take taken piece)) after.progress)
    (over : (b : ℕ) (bytes : List ℕ) → StandsFor old b bytes → IsSome (refusal_in after.progress) → IsOver (limits_of old) b (bytes ++ take taken piece))
    (sums : (b : ℕ) (bytes : List ℕ) → StandsFor new b bytes → IsLongestSum (limits_of new) b bytes after.sum)
    (ended : (b : ℕ) (bytes : List ℕ) → StandsFor new b bytes → IsTrue has_ended → IsOver (limits_of new) b bytes)
    (closes : is ≡ false → (taken ≡ 0) ⊎ (IsEnough begin enough after ⊎ (IsSome (refusal_in after.progress) ⊎ IsTrue has_ended)))
    (all : taken ≡ 0 → count ≡ 0) (room : 0 < length piece) where
  pub reading_more : (known now : Option (List ℕ)) → now ≡ known → GaveBy now before.reached count piece
      → IfSome known (λ text. IsReading limits text old begin enough was before) → IfSome known (λ text. IsReading limits text new begin enough is after)
  reading_more None now same gave reading = tt
  reading_more (Some text) now same gave reading =
      let place = before.reached in
      let gave_text = subst (λ (o : Option (List ℕ)). GaveBy o place count piece) same gave in
      let r = reading.is_read in
      let bytes = bytes_between begin place text in
      let there = bytes_between begin after.reached text in
      let e : there ≡ bytes ++ take taken piece =
      ap (λ (n : ℕ). bytes_between begin n text) on ∙ between_more text piece place count taken gave_text.given within less begin r.ordered in
      let stands : StandsFor new begin there = subst (StandsFor new begin) (sym e) (goes begin bytes r.stands) in
      record {
        is_read = record {
          ordered = omega (arith, r.ordered, on);
          within = λ some. elim (cases_lt 0 taken) [
            | inl more ↦ omega (arith, on, reached text piece place count taken gave_text.given within less more)
            | inr none ↦ omega (arith, on, none, r.within, r.ordered, some)
          ];
          stands = stands;
        };
        says = record {
          ordered = omega (arith, r.ordered, on);
          longest = subst (λ (l : Allowed). IsLongestSum l begin there after.sum) new_under (sums begin there stands);
          shows = subst (λ (l : List ℕ). Answers limits (stand_at begin ++ l) after.progress) (sym e)
              (subst (λ (l : Allowed). Answers l (stand_at begin ++ (bytes ++ take taken piece)) after.progress) old_under (shows begin bytes r.stands));
        };
        why = λ closed. elim (closes closed) [
          | inl none ↦ inl (omega (arith, on, gave_text.none (all none) room))
          | inr (inl enough) ↦ inr (inl enough)
          | inr (inr (inl refused)) ↦ inr (inr (subst (IsOver limits begin) (sym e)
              (subst (λ (l : Allowed). IsOver l begin (bytes ++ take taken piece)) old_under (over begin bytes r.stands refused))))
          | inr (inr (inr faulty)) ↦ inr (inr (subst (λ (l : Allowed). IsOver l begin there) new_under (ended begin there stands faulty)))
        ];
      }

-- ---- at the end

module _ (limits : Allowed) (linter : RunLinter) (begin end enough : ℕ) (run : ReadRun) where
  pub reads_to : (known : Option (List ℕ)) (is_open : Bool) → IfSome known (λ text. IsReading limits text linter begin enough is_open run)
      → MayBegin limits begin → (begin < run.reached → run.reached ≤ end) → (is_open ≡ true → end ≤ run.reached)
      → IfSome known (λ text. ReadsTo limits text begin end enough run)
  reads_to None is_open reading may within stops = tt
  reads_to (Some text) true reading may within stops =
      inl (record { may = may; within = within; read = reading.says; stopped = λ less. absurd (omega (arith, less, stops refl)) })
  reads_to (Some text) false reading may within stops =
      inl (record { may = may; within = within; read = reading.says; stopped = λ less. reading.why refl })

  pub sum_known : (known : Option (List ℕ)) (is_open : Bool) → IfSome known (λ text. IsReading limits text linter begin enough is_open run)
      → IfSome known (λ text. IsSumIn limits.depth text run.sum)
  sum_known None is_open reading = tt
  sum_known (Some text) is_open reading =
      let place = run.reached in
      let is = reading.says.longest in
      let long : length (bytes_between begin place text) ≡ min (place - begin) (length (drop begin text)) = length-take (place - begin) (drop begin text) in
      let fits : run.sum.end - begin ≤ place - begin = omega (arith, is.within, long) in
      record {
        within = λ some. omega (arith, is.within, long, length-drop begin text, is.begins, some, reading.is_read.ordered, reading.is_read.within);
        is_sum = λ some. subst (λ (l : List ℕ). IsSumOf limits.depth l run.sum)
            (take-take (run.sum.end - begin) (place - begin) (drop begin text) fits
            ∙ ap (λ (n : ℕ). bytes_between n run.sum.end text) (sym is.begins)) is.is_sum;
      }

-- where no number of bytes was enough, it is the longest of all bytes up to the end
pub whole_run : (limits : Allowed) (text : List ℕ) (begin end enough : ℕ) (run : ReadRun) → ReadsTo limits text begin end enough run → MayBegin limits begin
    → run.reached < begin + enough → IsLongestSum limits begin (bytes_between begin end text) run.sum
whole_run limits text begin end enough run (inr never) may few = absurd (never.0 may)
whole_run limits text begin end enough run (inl r) may few =
    let place = run.reached in
    let P : List ℕ → Type 0 = λ l. IsLongestSum limits begin l run.sum in
    let is = r.read.longest in
    let rest = drop begin text in
    let there = bytes_between begin place text in
    elim (cases_lt place end) [
      | inl less ↦ elim (r.stopped less) [
        | inl whole ↦ (let l = length-drop begin text in
            subst P (take_all (place - begin) rest (omega (arith, l, whole)) ∙ sym (take_all (end - begin) rest (omega (arith, l, whole, less)))) is)
        | inr (inl enough) ↦ absurd (omega (arith, enough.0, few))
        | inr (inr over) ↦ subst P (sym (between_split text begin place end r.read.ordered (omega (arith, less)))) (over run.sum (bytes_between place end text) is)
      ]
      | inr past ↦ (let e : place - begin ≡ end - begin = elim (cases_lt begin place) [
        | inl some ↦ omega (arith, r.within some, past)
        | inr none ↦ omega (arith, none, past)
      ] in subst P (ap (λ (n : ℕ). take n rest) e) is)
    ]

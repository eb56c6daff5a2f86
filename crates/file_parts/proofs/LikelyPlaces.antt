-- What a search for a likely place has shown so far.
use Rattle.std.proofs.Common.{arith, ◌≡◌, inl, inr, ℕ, ◌+◌, ◌-◌, ◌<◌, ◌≤◌, ◌^◌, true, List, [], ◌∷◌, ◌++◌, length, take, drop, min, Option, Some, None, sym, ap, subst, refl, ◌∙◌}
use Rattle.std.specs.Prelude.{IfSome}
use Rattle.std.proofs.lemmas.Bool.{cases_lt}
use Rattle.std.proofs.lemmas.List.{append-nil, drop-append-le, drop-drop, length-drop, length-take-le, take-append-drop}
use Rattle.std.proofs.Math.Seq.{take-append_seam}
use Rattle.gj_json.specs.Limits.{Allowed}
use Rattle.gj_join.specs.Runs.{MayBegin}
use Rattle.gj_join.specs.Seams.{is_seam, seam}
use Rattle.file_parts.specs.Internal.Reading.{IsFilled}
use Rattle.file_parts.specs.Likely.{AllVain, AreVain, IsGood, IsLikely, IsSeam, IsVain, bytes_tried}
use Rattle.file_parts.specs.ReadRuns.{ReadsRun, ReadsTo}
use Rattle.file_parts.specs.declared.collections.runs.ReadRun.{ReadRun}
use Rattle.file_parts.proofs.SeamsRead.{none_among, none_at, seam_first, seam_found, seam_longer}

-- ---- the seams in a piece

module _ (text xs zs : List ℕ) (place : ℕ) (given : drop place text ≡ xs ++ zs) where
  from_there : (q : ℕ) → place < q → drop (q - 1) text ≡ drop (q - 1 - place) (xs ++ zs)
  from_there q later =
      let e : q - 1 ≡ place + (q - 1 - place) = omega (arith, later) in
      ap (λ (n : ℕ). drop n text) e ∙ sym (drop-drop (q - 1 - place) place text) ∙ ap (drop (q - 1 - place)) given

  whole : (q n : ℕ) → place < q → IsSeam text n q → is_seam (drop (q - 1 - place) (xs ++ zs)) ≡ true
  whole q n later s =
      let rest = drop (q - 1) text in
      ap is_seam (sym (from_there q later) ∙ sym (take-append-drop n rest)) ∙ seam_longer (take n rest) (drop n rest) s.seam

  pub none_first : (i : ℕ) → seam xs ≡ Some i → (q : ℕ) → place < q → q < place + i → IsSeam text 256 q → ⊥
  none_first i e q later l s = seam_first xs zs i (q - 1 - place) e (omega (arith, later, l)) (whole q 256 later s)

  pub none_there : seam xs ≡ None → 256 < length xs → (q : ℕ) → place < q → q < place + (length xs - 256) + 1 → IsSeam text 256 q → ⊥
  none_there e long q later l s =
      none_among xs zs (q - 1 - place) 256 e (omega (arith, later, l, long))
      (ap (λ (l : List ℕ). is_seam (take 256 l)) (sym (from_there q later)) ∙ s.seam)

  pub none_after : seam xs ≡ None → zs ≡ [] → (q : ℕ) → place < q → IsSeam text 256 q → ⊥
  none_after e end q later s =
      let all : xs ++ zs ≡ xs = ap (λ (l : List ℕ). xs ++ l) end ∙ append-nil xs in
      none_at xs (q - 1 - place) e (ap (λ (l : List ℕ). is_seam (drop (q - 1 - place) l)) (sym all) ∙ whole q 256 later s)

  pub seam_here : (i : ℕ) → seam xs ≡ Some i → (place < place + i) × ((n : ℕ) × IsSeam text n (place + i))
  seam_here i e =
      let f = seam_found xs i e in
      let j : place + i - 1 - place ≡ i - 1 = omega (arith, f.0) in
      let here = drop (i - 1) xs in
      let rest : drop (place + i - 1) text ≡ here ++ zs =
      from_there (place + i) (omega (arith, f.0)) ∙ ap (λ (n : ℕ). drop n (xs ++ zs)) j ∙ drop-append-le (i - 1) xs zs (omega (arith, f.1)) in (
        omega (arith, f.0),
        (
          length here,
          record { some = omega (arith, f.0); seam = ap (λ (l : List ℕ). is_seam (take (length here) l)) rest ∙ ap is_seam (take-append_seam here zs) ∙ f.2 },
        ),
      )

none_long : (xs : List ℕ) → length xs ≡ 0 → xs ≡ []
none_long [] e = refl
none_long (x ∷ xs) e = cc

-- ---- the trials

module _ (limits : Allowed) (text : List ℕ) (from : ℕ) where
  pub record Searched (place tried : ℕ) : Type 0 where
    pub vain : AllVain limits text from (place + 1)
    pub trials : List (ℕ × ReadRun)
    pub are : AreVain limits text from (place + 1) trials
    pub count : tried ≤ bytes_tried trials

  are_to : (a b : ℕ) (trials : List (ℕ × ReadRun)) → a ≤ b → AreVain limits text from a trials → AreVain limits text from b trials
  are_to a b [] l h = tt
  are_to a b ((q, run) ∷ more) l h = (h.0, omega (arith, h.1, l), h.2, h.3, h.4)

  pub searched_first : Searched from 0
  searched_first = record { vain = λ q l m s may. absurd (omega (arith, l, m)); trials = []; are = tt; count = omega arith }

  -- no seam is among these places
  abbrev pub NoneIn : (place until : ℕ) → Type 0
  NoneIn place until = (q : ℕ) → place < q → q < until → IsSeam text 256 q → ⊥

  vain_to : (place tried until : ℕ) → Searched place tried → NoneIn place until → AllVain limits text from until
  vain_to place tried until h none = λ q l m s may. elim (cases_lt place q) [
    | inl later ↦ absurd (none q later m s)
    | inr early ↦ h.vain q l (omega (arith, early)) s may
  ]

  pub searched_on : (place next tried : ℕ) → Searched place tried → place ≤ next → NoneIn place (next + 1) → Searched next tried
  searched_on place next tried h on none = record {
    vain = vain_to place tried (next + 1) h none;
    trials = h.trials;
    are = are_to (place + 1) (next + 1) h.trials (omega (arith, on)) h.are;
    count = h.count;
  }

  pub searched_trial : (place found tried now end : ℕ) (run : ReadRun) → Searched place tried → from ≤ place → place < found → NoneIn place found
      → (n : ℕ) × IsSeam text n found → ReadsTo limits text found end (2 ^ 16) run → (MayBegin limits found → end ≡ found + 2 ^ 20) → (IsGood run → ⊥)
      → now ≤ tried + (run.reached - found) → Searched found now
  searched_trial place found tried now end run h after on none here (inr never) most bad few = record {
    vain = λ q l m s may. elim (cases_lt q found) [
      | inl early ↦ vain_to place tried found h none q l early s may
      | inr late ↦ absurd (let e : q ≡ found = omega (arith, m, late) in never.0 (subst (MayBegin limits) e may))
    ];
    trials = h.trials;
    are = are_to (place + 1) (found + 1) h.trials (omega (arith, on)) h.are;
    count = omega (arith, few, never.2, h.count);
  }
  searched_trial place found tried now end run h after on none here (inl r) most bad few =
      let vain : IsVain limits text found run =
      record { trial = subst (λ (n : ℕ). ReadsRun limits text found n (2 ^ 16) run) (most r.may) r; bad = bad } in
      record {
        vain = λ q l m s may. elim (cases_lt q found) [
          | inl early ↦ vain_to place tried found h none q l early s may
          | inr late ↦ (let e : found ≡ q = omega (arith, m, late) in subst (λ (n : ℕ). (run : ReadRun) × IsVain limits text n run) e (run, vain))
        ];
        trials = (found, run) ∷ h.trials;
        are = (omega (arith, after, on), omega arith, here, vain, are_to (place + 1) found h.trials (omega (arith, on)) h.are);
        count = omega (arith, few, h.count);
      }

  -- no run begins beyond the limit
  module _ (until last : ℕ) (bound : last ≡ min until (limits.bytes + 1)) where
    pub none_likely : (end : ℕ) → AllVain limits text from end → last ≤ end → IsLikely limits text from until None
    none_likely end vain past = inl (λ q l m s may. elim (cases_lt q end) [
      | inl early ↦ vain q l early s may
      | inr late ↦ absurd (omega (arith, bound, m, late, past, may.1))
    ])

    pub late_likely : (place tried end : ℕ) → Searched place tried → NoneIn place end → last ≤ end → IsLikely limits text from until None
    late_likely place tried end h none past = none_likely end (vain_to place tried end h none) past

    pub stopped_likely : (place tried : ℕ) → Searched place tried → (place < last → 2 ^ 24 < tried) → IsLikely limits text from until None
    stopped_likely place tried h stops = elim (cases_lt place last) [
      | inl early ↦ inr (h.trials, are_to (place + 1) until h.trials (omega (arith, bound, early)) h.are, omega (arith, h.count, stops early))
      | inr late ↦ none_likely (place + 1) h.vain (omega (arith, late))
    ]

    pub good_likely : (place tried found end : ℕ) (run : ReadRun) → Searched place tried → from ≤ place → place < found → found < last → NoneIn place found
        → (n : ℕ) × IsSeam text n found → ReadsTo limits text found end (2 ^ 16) run → (MayBegin limits found → end ≡ found + 2 ^ 20) → IsGood run
        → IsLikely limits text from until (Some found)
    good_likely place tried found end run h after on early none here (inr never) most good = absurd (omega (arith, good.0, never.1))
    good_likely place tried found end run h after on early none here (inl r) most good = (
      omega (arith, after, on),
      omega (arith, bound, early),
      here,
      (run, subst (λ (n : ℕ). ReadsRun limits text found n (2 ^ 16) run) (most r.may) r, good),
      vain_to place tried found h none,
    )

-- ---- where the source tells its bytes

in_both : {A B C : List ℕ → Type 0} (known : Option (List ℕ)) → ((text : List ℕ) → A text → B text → C text) → IfSome known A → IfSome known B
    → IfSome known C
in_both None f a b = tt
in_both (Some text) f a b = f text a b

module _ (limits : Allowed) (from until last place tried bytes : ℕ) (lesser : last ≡ min until (bytes + 1)) (value : bytes ≡ limits.bytes)
    (known : Option (List ℕ)) (searched : IfSome known (λ text. Searched limits text from place tried)) where
  bound : last ≡ min until (limits.bytes + 1)
  bound = lesser ∙ ap (λ (n : ℕ). min until (n + 1)) value

  pub in_stopped : (place < last → 2 ^ 24 < tried) → IfSome known (λ text. IsLikely limits text from until None)
  in_stopped stops = in_both known (λ text s k. stopped_likely limits text from until last bound place tried s stops) searched searched

  module _ (count : ℕ) (piece : List ℕ) (after : from ≤ place) (within : count ≤ length piece) (now : Option (List ℕ)) (same : now ≡ known)
      (filled : IfSome now (λ text. IsFilled text place count piece)) where
    abbrev xs : List ℕ
    xs = take count piece

    long : length xs ≡ count
    long = length-take-le count piece within

    both : IfSome known (λ text. IsFilled text place count piece × Searched limits text from place tried)
    both = in_both known (λ text f s. (f, s)) (subst (λ (o : Option (List ℕ)). IfSome o (λ text. IsFilled text place count piece)) same filled) searched

    pub in_late : (i : ℕ) → seam xs ≡ Some i → last ≤ place + i → IfSome known (λ text. IsLikely limits text from until None)
    in_late i e past = in_both known (λ text b k. late_likely limits text from until last bound place tried (place + i) b.1
        (none_first text xs (drop (place + count) text) place b.0.given i e) past) both both

    pub in_more : seam xs ≡ None → 256 < count → IfSome known (λ text. Searched limits text from (place + (count - 256)) tried)
    in_more e more = in_both known (λ text b k. searched_on limits text from place (place + (count - 256)) tried b.1 (omega arith)
        (λ q l m s. none_there text xs (drop (place + count) text) place b.0.given e (omega (arith, long, more)) q l (omega (arith, m, long)) s)) both both

    pub in_end : seam xs ≡ None → count < length piece → IfSome known (λ text. IsLikely limits text from until None)
    in_end e short = in_both known (λ text b k. late_likely limits text from until last bound place tried last b.1
        (λ q l m s. none_after text xs (drop (place + count) text) place b.0.given e
        (none_long (drop (place + count) text) (omega (arith, length-drop (place + count) text, b.0.all short))) q l s) (omega arith)) both both

    module _ (i : ℕ) (e : seam xs ≡ Some i) (end : ℕ) (run : ReadRun) (other : Option (List ℕ)) (alike : other ≡ known) (exact : end ≡ place + i + 2 ^ 20)
        (reads : IfSome other (λ text. ReadsTo limits text (place + i) end (2 ^ 16) run)) where
      read : IfSome known (λ text. ReadsTo limits text (place + i) end (2 ^ 16) run)
      read = subst (λ (o : Option (List ℕ)). IfSome o (λ text. ReadsTo limits text (place + i) end (2 ^ 16) run)) alike reads

      pub in_good : place + i < last → IsGood run → IfSome known (λ text. IsLikely limits text from until (Some (place + i)))
      in_good early good = in_both known (λ text b r.
          (let here = seam_here text xs (drop (place + count) text) place b.0.given i e in
          good_likely limits text from until last bound place tried (place + i) end run b.1 after here.0 early
          (none_first text xs (drop (place + count) text) place b.0.given i e) here.1 r (λ may. exact) good)) both read

      pub in_vain : (IsGood run → ⊥) → (now : ℕ) → now ≤ tried + (run.reached - (place + i)) → IfSome known (λ text. Searched limits text from (place + i) now)
      in_vain bad now few = in_both known (λ text b r.
          (let here = seam_here text xs (drop (place + count) text) place b.0.given i e in
          searched_trial limits text from place (place + i) tried now end run b.1 after here.0
          (none_first text xs (drop (place + count) text) place b.0.given i e) here.1 r (λ may. exact) bad few)) both read

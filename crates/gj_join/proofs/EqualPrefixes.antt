-- After prefixes of the same length where a feature has ended, the same bytes are refused.
use Rattle.std.proofs.Common.{◌≡◌, ◌⊎◌, ℕ, ◌≤◌, inl, inr, Bool, List, [], ◌∷◌, ◌++◌, length, refl, sym, ap, subst, ◌∙◌, arith, append_assoc}
use Rattle.std.proofs.lemmas.List.{length-append}
use Rattle.gj_json.specs.declared.fault.Cause.{Cause}
use Rattle.gj_json.specs.declared.fault.Cause.TheVariants.{Syntax, Truncated, Depth, Length}
use Rattle.gj_json.specs.Limits.{Allowed}
use Rattle.gj_json.specs.Refusal.{Stops, RefusedFor}
use Rattle.gj_json.specs.Text.{IsTextWithin, IsViable, IsViableWithin}
use Rattle.gj_json.specs.Tree.{Text}
use Rattle.gj_json.proofs.Machine.LongestPrefixes.{no_deeper}
use Rattle.gj_join.proofs.ClosedTexts.{alike, within_alike, any_alike, text_of}
use Rattle.gj_join.proofs.FeatureStates.{Stands}
use Rattle.gj_join.proofs.ReachedFeatures.{Around}

-- the byte stands after these bytes, or is one of them
record IsAfter (xs us ys : List ℕ) (b : ℕ) (vs : List ℕ) : Type 0 where
  pub between : List ℕ
  pub good : ys ≡ xs ++ between
  pub rest : us ≡ between ++ b ∷ vs

split_at : (xs us ys : List ℕ) (b : ℕ) (vs : List ℕ) → xs ++ us ≡ ys ++ b ∷ vs → IsAfter xs us ys b vs ⊎ ((zs : List ℕ) × (xs ≡ (ys ++ b ∷ []) ++ zs))
split_at [] us ys b vs e = inl (record { between = ys; good = refl; rest = e })
split_at (x ∷ xs) us [] b vs e = let i : x ≡ b = cc in inr (xs, ap (λ z. z ∷ xs) i)
split_at (x ∷ xs) us (y ∷ ys) b vs e =
    let i : x ≡ y = cc in
    let j : xs ++ us ≡ ys ++ b ∷ vs = cc in
    elim (split_at xs us ys b vs j) [
      | inl k ↦ inl (record { between = k.between; good = ap (λ zs. y ∷ zs) k.good ∙ ap (λ z. z ∷ (xs ++ k.between)) (sym i); rest = k.rest })
      | inr k ↦ inr (k.0, ap (λ zs. x ∷ zs) k.1 ∙ ap (λ z. z ∷ ((ys ++ b ∷ []) ++ k.0)) i)
    ]

front_viable : (d : ℕ) (xs ys : List ℕ) → IsViableWithin d (xs ++ ys) → IsViableWithin d xs
front_viable d xs ys v = (ys ++ v.0, v.1, (rw (← append_assoc xs ys v.0) v.2.0, v.2.1))

module _ (marked : Bool) (around : Around) (limits : Allowed) (xs ys after : List ℕ) (s : Stands marked around xs) (t : Stands marked around ys)
    (xs_viable : IsViableWithin limits.depth xs) (ys_viable : IsViableWithin limits.depth ys) (same : length xs ≡ length ys) where
  stopped : (good : List ℕ) (byte : ℕ) (rest : List ℕ) → xs ++ after ≡ good ++ byte ∷ rest
      → (IsViableWithin limits.depth (good ++ byte ∷ []) → ⊥) → IsAfter xs after good byte rest
  stopped good byte rest e never = elim (split_at xs after good byte rest e) [
    | inl i ↦ i
    | inr i ↦ absurd (never (front_viable limits.depth (good ++ byte ∷ []) i.0 (subst (λ zs. IsViableWithin limits.depth zs) i.1 xs_viable)))
  ]

  late : (good : List ℕ) (byte : ℕ) (rest : List ℕ) → xs ++ after ≡ good ++ byte ∷ rest → length xs ≤ length good → IsAfter xs after good byte rest
  late good byte rest e l = elim (split_at xs after good byte rest e) [
    | inl i ↦ i
    | inr i ↦ absurd (omega (arith, l, ap length i.1, length-append (good ++ byte ∷ []) i.0, length-append good (byte ∷ [])))
  ]

  other_stop : (place : ℕ) (p : Stops limits (xs ++ after) place) (i : IsAfter xs after p.good p.byte p.rest) → Stops limits (ys ++ after) place
  other_stop place p i = record {
    good = ys ++ i.between;
    byte = p.byte;
    rest = p.rest;
    split = ap (λ zs. ys ++ zs) i.rest ∙ sym (append_assoc ys i.between (p.byte ∷ p.rest));
    at = omega (arith, p.at, same, ap length i.good, length-append xs i.between, length-append ys i.between);
    viable = within_alike marked around limits.depth xs ys i.between s t same ys_viable (subst (λ zs. IsViableWithin limits.depth zs) i.good p.viable);
  }

  with_byte : (place : ℕ) (p : Stops limits (xs ++ after) place) (i : IsAfter xs after p.good p.byte p.rest)
      → p.good ++ p.byte ∷ [] ≡ xs ++ (i.between ++ p.byte ∷ [])
  with_byte place p i = ap (λ zs. zs ++ p.byte ∷ []) i.good ∙ append_assoc xs i.between (p.byte ∷ [])

  no_text : IsViableWithin limits.depth (xs ++ after) → ((text : Text) → IsTextWithin limits.depth text (xs ++ after) → ⊥) → (text : Text)
      → IsTextWithin limits.depth text (ys ++ after) → ⊥
  no_text v never text h =
      let g = alike marked around ys xs after t s (sym same) text h.0 in
      let other = text_of marked g.0 around s.done s.value in
      never other (g.2, no_deeper limits.depth other (xs ++ after) g.2 v)

  pub refused_alike : (cause : Cause) (place : ℕ) → length xs ≤ limits.bytes → RefusedFor cause limits (xs ++ after) place
      → RefusedFor cause limits (ys ++ after) place
  unfolding other_stop
  refused_alike Syntax place room r =
      let p = r.0 in
      let i = stopped p.good p.byte p.rest p.split (λ v. r.2 (v.0, v.1, v.2.0)) in (
        other_stop place p i,
        r.1,
        λ v. r.2 (subst IsViable (sym (with_byte place p i)) (any_alike marked around ys xs (i.between ++ p.byte ∷ []) t s (sym same)
            (subst IsViable (append_assoc ys i.between (p.byte ∷ [])) v))),
      )
  refused_alike Depth place room r =
      let p = r.0 in
      let i = stopped p.good p.byte p.rest p.split r.3 in (
        other_stop place p i,
        r.1,
        subst IsViable (sym (append_assoc ys i.between (p.byte ∷ []))) (any_alike marked around xs ys (i.between ++ p.byte ∷ []) s t same
            (subst IsViable (with_byte place p i) r.2)),
        λ v. r.3 (subst (IsViableWithin limits.depth) (sym (with_byte place p i))
            (within_alike marked around limits.depth ys xs (i.between ++ p.byte ∷ []) t s (sym same) xs_viable
            (subst (IsViableWithin limits.depth) (append_assoc ys i.between (p.byte ∷ [])) v))),
      )
  refused_alike Length place room r =
      let p = r.0 in
      (other_stop place p (late p.good p.byte p.rest p.split (omega (arith, room, p.at, r.1))), r.1)
  refused_alike Truncated place room r = (
    omega (arith, r.0, same, length-append xs after, length-append ys after),
    r.1,
    within_alike marked around limits.depth xs ys after s t same ys_viable r.2,
    no_text r.2 r.3,
  )

-- What is found in the records of an input is found in no other way, and always.
use Rattle.gj_rules.proofs.Common.{Allowed, AreFindings, Entry, Framing, IsNumberedVerdict, IsVerdict, List, Part, Record, Syntax, Verdict, ap}
use Rattle.gj_rules.proofs.Common.{ends_in_line_feed, length, not_json, own_limits, refl, shifted_verdict, suc, sym, zero, [], ◌+◌, ◌∙◌, ◌∷◌}
use Rattle.std.proofs.Common.{◌≡◌, ℕ}
use Rattle.gj_rules.specs.RecordFindings.{ended_as}

module _ (some : (limits : Allowed) (bytes : List ℕ) → (verdict : Verdict) × IsVerdict limits bytes verdict) where
  some_verdict : (framing : Framing) (levels number : ℕ) (part : Part) → (verdict : Verdict) × IsNumberedVerdict framing levels number part verdict
  some_verdict framing levels zero part = (not_json part.start Syntax, refl)
  some_verdict framing levels (suc n) part =
      let own = some (own_limits levels part.bytes) part.bytes in
      (shifted_verdict part.start (ended_as framing part.end (ends_in_line_feed part.bytes) (length part.bytes) own.0), (own.0, own.1, refl))

  pub some_findings : (framing : Framing) (levels : ℕ) (entries : List Entry) → (found : List Record) × AreFindings framing levels entries found
  some_findings framing levels [] = ([], tt)
  some_findings framing levels (entry ∷ more) =
      let v = some_verdict framing levels entry.number entry.part in
      let rest = some_findings framing levels more in (
        record { number = entry.number; place = entry.part.start; end = entry.part.start + length entry.part.bytes; verdict = v.0 } ∷ rest.0,
        (record { number = refl; place = refl; end = refl; verdict = v.1 }, rest.1),
      )

module _ (one : (limits : Allowed) (bytes : List ℕ) (first second : Verdict) → IsVerdict limits bytes first → IsVerdict limits bytes second → first ≡ second)
  where
    one_verdict : (framing : Framing) (levels number : ℕ) (part : Part) (a b : Verdict) → IsNumberedVerdict framing levels number part a
        → IsNumberedVerdict framing levels number part b → a ≡ b
    one_verdict framing levels zero part a b h k = h ∙ sym k
    one_verdict framing levels (suc n) part a b h k =
        h.2 ∙ (ap (λ own. shifted_verdict part.start (ended_as framing part.end (ends_in_line_feed part.bytes) (length part.bytes) own))
        (one (own_limits levels part.bytes) part.bytes h.0 k.0 h.1 k.1) ∙ sym k.2)

    same_record : (a b : Record) → a.number ≡ b.number → a.place ≡ b.place → a.end ≡ b.end → a.verdict ≡ b.verdict → a ≡ b
    same_record a b e f g h =
        ap (λ n. record a { number = n }) e
        ∙ (ap (λ n. record a { number = b.number; place = n }) f
        ∙ (ap (λ n. record a { number = b.number; place = b.place; end = n }) g ∙ ap (λ v. record b { verdict = v }) h))

    pub one_findings : (framing : Framing) (levels : ℕ) (entries : List Entry) (a b : List Record) → AreFindings framing levels entries a
        → AreFindings framing levels entries b → a ≡ b
    one_findings framing levels [] [] [] h k = refl
    one_findings framing levels [] (x ∷ a) b h k = absurd h
    one_findings framing levels [] [] (y ∷ b) h k = absurd k
    one_findings framing levels (entry ∷ more) [] b h k = absurd h
    one_findings framing levels (entry ∷ more) (x ∷ a) [] h k = absurd k
    one_findings framing levels (entry ∷ more) (x ∷ a) (y ∷ b) h k =
        let same = same_record x y (h.0.number ∙ sym k.0.number) (h.0.place ∙ sym k.0.place) (h.0.end ∙ sym k.0.end)
        (one_verdict framing levels entry.number entry.part x.verdict y.verdict h.0.verdict k.0.verdict) in
        ap (λ r. r ∷ a) same ∙ ap (λ rs. y ∷ rs) (one_findings framing levels more a b h.1 k.1)
